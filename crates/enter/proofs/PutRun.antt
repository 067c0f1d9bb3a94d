-- The loop that writes a run of words: what holds before each, at the start and at the end. Assumes nothing.
use mathlib.Core.Path.{◌≡◌, sym, ap, ap₂, ◌∙◌}
use mathlib.Core.List.{List}
use Prim.Native.Nat.{ℕ, suc, ◌+◌, ◌-◌, ◌*◌, ◌≤◌, ◌<◌}
use native.Mathlib.Omega.{arith}
use lib.ListN.{set}
use Rattle.enter.specs.Enter.{put_slot, put_run}
use Rattle.enter.proofs.Slots.{put_in}

-- i of n words are written, and ws are the words so far
abbrev pub Putting : List ℕ → ℕ → ℕ → ℕ → List ℕ → ℕ → Type 0
Putting ws₀ m n e ws i = put_run ws₀ m n e ≡ put_run ws (m + i) (n - i) (e + 1024 * i)

pub run_start : (ws : List ℕ) (m n e : ℕ) → Putting ws m n e ws 0
run_start ws m n e =
    let a : m ≡ m + 0 = omega arith in
    let b : n ≡ n - 0 = omega arith in
    let c : e ≡ e + 1024 * 0 = omega arith in
    ap₂ (λ (x y : ℕ). put_run ws x y e) a b ∙ ap (put_run ws (m + 0) (n - 0)) c

pub run_next : (ws₀ : List ℕ) (m n e : ℕ) (ws : List ℕ) (i : ℕ) → Putting ws₀ m n e ws i → 2 ≤ m → i < n → Putting ws₀ m n e (set ws (m - 2 + i) (e + 1024 * i)) (i + 1)
unfolding put_run
run_next ws₀ m n e ws i h t l =
    let a : n - i ≡ suc (n - (i + 1)) = omega arith in
    let b : suc (m + i) ≡ m + (i + 1) = omega arith in
    let c : e + 1024 * i + 1024 ≡ e + 1024 * (i + 1) = omega arith in
    let d : m + i - 2 ≡ m - 2 + i = omega arith in
    let w : put_slot ws (m + i) (e + 1024 * i) ≡ set ws (m - 2 + i) (e + 1024 * i) =
    sym (put_in ws (m + i) (e + 1024 * i) (omega arith)) ∙ ap (λ (x : ℕ). set ws x (e + 1024 * i)) d in
    h ∙ ap (λ (x : ℕ). put_run ws (m + i) x (e + 1024 * i)) a
    ∙ ap (λ (x : List ℕ). put_run x (suc (m + i)) (n - (i + 1)) (e + 1024 * i + 1024)) w
    ∙ ap₂ (λ (x y : ℕ). put_run (set ws (m - 2 + i) (e + 1024 * i)) x (n - (i + 1)) y) b c

pub run_done : (ws₀ : List ℕ) (m n e : ℕ) (ws : List ℕ) (i : ℕ) → Putting ws₀ m n e ws i → n ≤ i → ws ≡ put_run ws₀ m n e
unfolding put_run
run_done ws₀ m n e ws i h l = let a : n - i ≡ 0 = omega arith in sym (h ∙ ap (λ (x : ℕ). put_run ws (m + i) x (e + 1024 * i)) a)
