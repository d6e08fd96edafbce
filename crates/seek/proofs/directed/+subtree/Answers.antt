-- `seek::directed::subtree` meets its contract. The walk has met some tiles of p's right side, and the trees of those that hang under p are written.
-- Assumes nothing.
use Rattle.std.proofs.Common.{arith}
use Rattle.seek.specs.Hanging.{hangs_beside}
use Rattle.seek.specs.Once.{tree_short}
use Rattle.seek.specs.RightSide.{walking_goes, walking_read, walking_last, walking_on, walking_falls}
use Rattle.seek.specs.Subtree.{going_starts, going_ends, going_short, going_pass, going_more, writes_alone}
use Rattle.seek.proofs.directed.+subtree.Goals as goal
use Rattle.seek.proofs.directed.+subtree.Goals.{then-low-area, else-low-area}

pub returns-then-word-area : goal.returns-then-word-area
returns-then-word-area t c =
    writes_alone _ c.requires.forms _ _ c.requires.meets _ _ (omega (arith, c.if-word-area.true, c.word.ensures.is)) c.put_first.ensures

pub loop-w-init : goal.loop-w-init
loop-w-init t c = going_starts _ c.requires.forms _ _ c.requires.meets _ _ c.along-w.ensures

pub returns-then-low-lowest : goal.returns-then-low-lowest
returns-then-low-lowest t c =
    going_ends _ c.requires.forms _ _ c.requires.meets _ _ _ _ _ c.loop-w.invariant
    (walking_last _ c.requires.forms _ _ c.requires.meets _ c.loop-w.invariant.walk c.in-Some.k c.in-Some.is _ c.floor-lowest.ensures
    (omega (arith, c.if-low-lowest.true, c.word-low.ensures.is)))
    c.put_first.ensures

pub subtree-c-requires : goal.subtree-c-requires
subtree-c-requires t c =
    let f = c.requires.forms in
    let h = walking_read _ f _ _ c.requires.meets _ c.loop-w.invariant.walk c.in-Some.k c.in-Some.is _ _ _
    c.floor-lowest.ensures c.word.ensures.is c.if-word-area.false c.word-low.ensures.is c.if-low-lowest.false c.if-low-area.true in
    (omega (arith, c.decreases, h.meets.left, (hangs_beside _ f _ _ _ h).begins), (f, (c.requires.size_right, h.meets)))

pub overflow_add-n : goal.overflow_add-n
overflow_add-n t c =
    let f = c.requires.forms in
    let m = c.requires.meets in
    let h = walking_read _ f _ _ m _ c.loop-w.invariant.walk c.in-Some.k c.in-Some.is _ _ _
    c.floor-lowest.ensures c.word.ensures.is c.if-word-area.false c.word-low.ensures.is c.if-low-lowest.false c.if-low-area.true in
    let r = c.subtree-c.ensures in
    omega (
      arith,
      going_short _ f _ _ m _ _ _ _ c.loop-w.invariant c.in-Some.k c.in-Some.is,
      tree_short _ f _ _ _ h.meets.used r.is,
      r.count,
      c.requires.size_right.most,
    )

pub next-w-requires-clause-goes : goal.next-w-requires-clause-goes
next-w-requires-clause-goes t c = walking_goes _ c.requires.forms _ _ c.requires.meets _ c.loop-w.invariant.walk c.in-Some.k c.in-Some.is

pub loop-w-smaller : goal.loop-w-smaller
loop-w-smaller t c = walking_falls _ c.requires.forms _ _ c.requires.meets _ c.loop-w.invariant.walk c.in-Some.k c.in-Some.is _ c.next-w.ensures

pub loop-w-preserved : goal.loop-w-preserved
loop-w-preserved t c =
    let f = c.requires.forms in
    let m = c.requires.meets in
    let l = c.loop-w in
    let o = walking_on _ f _ _ m _ l.invariant.walk c.in-Some.k c.in-Some.is _ c.next-w.ensures in
    elim c.if-low-area.branch [
      | then-low-area v ↦
          let h = walking_read _ f _ _ m _ l.invariant.walk c.in-Some.k c.in-Some.is _ _ _
          c.floor-lowest.ensures c.word.ensures.is c.if-word-area.false c.word-low.ensures.is c.if-low-lowest.false v.if-low-area.true in
          going_more _ f _ _ m _ _ _ _ l.invariant c.in-Some.k c.in-Some.is _ o _ _ _ _ _ h v.min-at.ensures v.subtree-c.ensures v.out-is v.n-is
      | else-low-area v ↦
          going_pass _ f _ _ m _ _ _ _ l.invariant c.in-Some.k c.in-Some.is _ o _ _
          (λ h. omega (arith, h.meets.bottom, v.if-low-area.false, c.word-low.ensures.is)) v.out-is v.n-is
    ]

pub returns : goal.returns
returns t c =
    going_ends _ c.requires.forms _ _ c.requires.meets _ _ _ _ _ c.loop-w.invariant (c.loop-w.invariant.walk.done c.in_default.is) c.put_first.ensures
