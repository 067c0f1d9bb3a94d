-- `enter::enter::enter_pages` meets its contract. The invariant: the pages before i are entered, and entering the rest gives the whole. Assumes nothing.
use native.Mathlib.Omega.{arith}
use Rattle.store.specs.Store.{store_of}
use Rattle.enter.proofs.Going.{start, page, small, can, after, done}
use Rattle.enter.proofs.enter.enter_pages.Goals as goal

pub loop-i-init : goal.loop-i-init
loop-i-init c =
    let a = c.args in
    start (store_of a.words.now a.tmarks.now a.bytes.now a.fmarks.now) a.root a.first a.n a.e c.requires

pub overflow_add-page : goal.overflow_add-page
overflow_add-page c =
    let a = c.args in
    let l = c.loop-i in
    omega (arith, page (store_of a.words.now a.tmarks.now a.bytes.now a.fmarks.now) a.root a.first a.n a.e (store_of l.words l.tmarks a.bytes.now a.fmarks.now) l.i l.invariant c.loop-i-test.true)

pub overflow_mul-i : goal.overflow_mul-i
overflow_mul-i c =
    let a = c.args in
    let l = c.loop-i in
    omega (arith, small (store_of a.words.now a.tmarks.now a.bytes.now a.fmarks.now) a.root a.first a.n a.e (store_of l.words l.tmarks a.bytes.now a.fmarks.now) l.i l.invariant c.loop-i-test.true)

pub overflow_add-e : goal.overflow_add-e
overflow_add-e c =
    let a = c.args in
    let l = c.loop-i in
    omega (arith, small (store_of a.words.now a.tmarks.now a.bytes.now a.fmarks.now) a.root a.first a.n a.e (store_of l.words l.tmarks a.bytes.now a.fmarks.now) l.i l.invariant c.loop-i-test.true)

pub enter_run-requires : goal.enter_run-requires
enter_run-requires c =
    let a = c.args in
    let l = c.loop-i in
    let t = c.loop-i-test.true in
    let k = c.min-k.ensures in
    can (store_of a.words.now a.tmarks.now a.bytes.now a.fmarks.now) a.root a.first a.n a.e l.words l.tmarks a.bytes.now a.fmarks.now l.i l.invariant _ (omega (arith, k, t)) (omega (arith, k, t)) (omega (arith, k, t))

pub loop-i-preserved : goal.loop-i-preserved
loop-i-preserved c =
    let a = c.args in
    let l = c.loop-i in
    let t = c.loop-i-test.true in
    let k = c.min-k.ensures in
    let went = c.enter_run.ensures a.bytes.now a.fmarks.now in
    after (store_of a.words.now a.tmarks.now a.bytes.now a.fmarks.now) a.root a.first a.n a.e l.words l.tmarks a.bytes.now a.fmarks.now l.i l.invariant _ (omega (arith, k, t)) (omega (arith, k, t)) (omega (arith, k, t)) _ went

pub returns : goal.returns
returns c =
    let a = c.args in
    let l = c.loop-i in
    done (store_of a.words.now a.tmarks.now a.bytes.now a.fmarks.now) a.root a.first a.n a.e (store_of l.words l.tmarks a.bytes.now a.fmarks.now) l.i l.invariant c.loop-i-test.false
