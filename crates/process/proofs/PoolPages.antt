-- How many pages of a range have a pool frame: ranges joined, and ranges without one. Assumes nothing.
use mathlib.Core.Path.{◌≡◌, refl, sym, ap, ap₂, ◌∙◌}
use Prim.Native.Nat.{ℕ, zero, suc, ◌+◌, ◌<◌}
use native.Mathlib.Nat.{add-zero, add-suc, suc-add, zero-add}
use native.Mathlib.Omega.{arith}
use lib.ListN.{length}
use Rattle.store.specs.Store.{Store}
use Rattle.store.specs.Walk.{resolve}
use Rattle.unmap.specs.Gone.{in_pool, pool_pages}

-- n pages, and m after them
pub pool_join : (n m : ℕ) (s : Store) (r p : ℕ) → pool_pages s r p (n + m) ≡ pool_pages s r p n + pool_pages s r (p + n) m
unfolding pool_pages
pool_join zero m s r p = ap₂ (pool_pages s r) (sym (add-zero p)) (zero-add m) ∙ sym (zero-add (pool_pages s r (p + 0) m))
pool_join (suc n) m s r p =
    let e : suc p + n ≡ p + suc n = suc-add p n ∙ sym (add-suc p n) in
    ap (pool_pages s r p) (suc-add n m)
    ∙ omega (arith, pool_join n m s r (suc p), ap (λ (x : ℕ). pool_pages s r x m) e)

-- what holds of page i of a range that starts at p, said of one that starts at p + 1
shift : {A : Type 0} (g : ℕ → A) (p i : ℕ) → g (suc p + i) ≡ g (p + suc i)
shift g p i = ap g (suc-add p i ∙ sym (add-suc p i))

-- pages of which the same have a pool frame
pub pool_alike : (n : ℕ) (s t : Store) (r p : ℕ)
    → ((i : ℕ) → i < n → in_pool (length t.fmarks) (resolve t r (p + i)) ≡ in_pool (length s.fmarks) (resolve s r (p + i)))
    → pool_pages t r p n ≡ pool_pages s r p n
unfolding pool_pages
pool_alike zero s t r p e = refl
pool_alike (suc n) s t r p e =
    ap₂ ◌+◌
    (ap (λ (x : ℕ). in_pool (length t.fmarks) (resolve t r x)) (sym (add-zero p)) ∙ e 0 (omega arith) ∙ ap (λ (x : ℕ). in_pool (length s.fmarks) (resolve s r x)) (add-zero p))
    (pool_alike n s t r (suc p) (λ i l.
    shift (λ x. in_pool (length t.fmarks) (resolve t r x)) p i ∙ e (suc i) (omega arith) ∙ sym (shift (λ x. in_pool (length s.fmarks) (resolve s r x)) p i)))

-- pages none of which has one
pub pool_free : (n : ℕ) (s : Store) (r p : ℕ) → ((i : ℕ) → i < n → in_pool (length s.fmarks) (resolve s r (p + i)) ≡ 0) → pool_pages s r p n ≡ 0
unfolding pool_pages
pool_free zero s r p e = refl
pool_free (suc n) s r p e =
    let a : in_pool (length s.fmarks) (resolve s r p) ≡ 0 = ap (λ (x : ℕ). in_pool (length s.fmarks) (resolve s r x)) (sym (add-zero p)) ∙ e 0 (omega arith) in
    omega (arith, a, pool_free n s r (suc p) (λ i l. shift (λ x. in_pool (length s.fmarks) (resolve s r x)) p i ∙ e (suc i) (omega arith)))

-- no entry, no pool frame
pub none_pool : (n e : ℕ) → e ≡ 0 → in_pool n e ≡ 0
unfolding in_pool
none_pool n e z = ap (in_pool n) z
