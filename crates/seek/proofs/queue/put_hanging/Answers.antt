-- `seek::queue::put_hanging` meets its contract. The tiles of the entry's right side that the walk has met and that hang under the entry are written.
-- Assumes nothing.
use Rattle.std.proofs.Common.{◌≡◌, ◌⊎◌, ℕ, ◌≤◌, ◌<◌, true, false, sym, subst₂, arith}
use Rattle.std.specs.Ordering.{is_le, is_lt, nat_cmp}
use Rattle.seek.specs.Enumerate.{area_of}
use Rattle.seek.specs.Queue.{Queueing, queue_short, queue_alone, queueing_starts, queueing_short, queueing_room, queueing_goes, queueing_falls, queueing_outside, queueing_inside, queueing_ends}
use Rattle.seek.proofs.queue.put_hanging.Goals as goal
use Rattle.seek.proofs.queue.put_hanging.Goals.{then-contains, else-contains}

-- what `contains` says of a range of numbers
is_within : (a x b : ℕ) → (is_le (nat_cmp a x) ≡ true) × (is_lt (nat_cmp x b) ≡ true) → (a ≤ x) × (x < b)
is_within a x b h = grind arith

not_within : (a x b : ℕ) → (is_le (nat_cmp a x) ≡ false) ⊎ (is_lt (nat_cmp x b) ≡ false) → (a ≤ x) × (x < b) → ⊥
not_within a x b h k = grind arith

pub named-p-requires : goal.named-p-requires
named-p-requires c =
    omega (arith, queue_short _ _ _ _ _ c.requires.queue, c.requires.queue.room, c.requires.i_lt_n)

pub returns-then-word-area : goal.returns-then-word-area
returns-then-word-area c =
    let r = rw c.named-p.ensures at c.word.ensures in
    queue_alone _ c.requires.forms _ _ _ _ c.requires.queue c.requires.i_lt_n (omega (arith, c.if-word-area.true, r.is))

pub loop-w-init : goal.loop-w-init
loop-w-init c =
    queueing_starts _ c.requires.forms _ _ _ _ c.requires.queue c.requires.i_lt_n _ (rw c.named-p.ensures at c.along-w.ensures)

pub put-requires-clause-n_in_bounds : goal.put-requires-clause-n_in_bounds
put-requires-clause-n_in_bounds c = queueing_room _ c.requires.forms _ _ _ _ c.requires.queue c.requires.i_lt_n _ _ _ c.loop-w.invariant

pub overflow_add-m : goal.overflow_add-m
overflow_add-m c =
    omega (arith, queueing_short _ c.requires.forms _ _ _ _ c.requires.queue c.requires.i_lt_n _ _ _ c.loop-w.invariant, c.requires.size_right.most)

pub next-w-requires-clause-goes : goal.next-w-requires-clause-goes
next-w-requires-clause-goes c =
    queueing_goes _ c.requires.forms _ _ _ _ c.requires.queue c.requires.i_lt_n _ _ _ c.loop-w.invariant c.in-Some.k c.in-Some.is

pub loop-w-smaller : goal.loop-w-smaller
loop-w-smaller c =
    queueing_falls _ c.requires.forms _ _ _ _ c.requires.queue c.requires.i_lt_n _ _ _ c.loop-w.invariant c.in-Some.k c.in-Some.is _ c.next-w.ensures

pub loop-w-preserved : goal.loop-w-preserved
loop-w-preserved c =
    let f = c.requires.forms in
    let q = c.requires.queue in
    let z = c.requires.size_right in
    let h = rw c.named-p.ensures at c.floor-lowest.ensures in
    let r = rw c.named-p.ensures at c.word.ensures in
    elim c.if-contains.branch [
      | then-contains d ↦
          subst₂ (λ l m. Queueing c.args.t.now (area_of c.args.area) c.args.list.now c.args.i c.args.n l m c.next-w.result) (sym c.put.ensures) (sym d.m-is)
          (queueing_inside _ f _ _ _ _ q c.requires.i_lt_n _ _ _ c.loop-w.invariant c.in-Some.k c.in-Some.is _ c.next-w.ensures z _ h
          (omega (arith, c.if-word-area.false, r.is)) (let k = is_within c.floor-lowest.result c.word-low.result c.args.area.top d.if-contains.ensures.cases in omega (arith, k.0, k.1, c.word-low.ensures.is)))
      | else-contains d ↦
          subst₂ (λ l m. Queueing c.args.t.now (area_of c.args.area) c.args.list.now c.args.i c.args.n l m c.next-w.result) (sym c.put.ensures) (sym d.m-is)
          (queueing_outside _ f _ _ _ _ q c.requires.i_lt_n _ _ _ c.loop-w.invariant c.in-Some.k c.in-Some.is _ c.next-w.ensures z _ h
          (λ k. not_within c.floor-lowest.result c.word-low.result c.args.area.top d.if-contains.ensures.cases (omega (arith, k.0, k.1, c.word-low.ensures.is))))
    ]

pub returns : goal.returns
returns c =
    queueing_ends _ c.requires.forms _ _ _ _ c.requires.queue c.requires.i_lt_n _ _ _ c.loop-w.invariant (c.loop-w.invariant.walk.done c.in_default.is)
