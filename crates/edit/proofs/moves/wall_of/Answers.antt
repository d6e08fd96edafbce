-- `moves::wall_of` meets its contract. Assumes nothing.
use native.Mathlib.Omega.{arith}
use Rattle.geometry.specs.Cases.{no}
use Rattle.edit.specs.Tidy.{forms_tidy}
use Rattle.edit.specs.Walls.{wall_rim, wall_found}
use Rattle.edit.proofs.moves.wall_of.Goals as goal
use Rattle.edit.proofs.moves.wall_of.Goals.{then-not-is_kind-via-then-not-is_kind, then-not-is_kind-via-else-not-is_kind+then-c-word}

pub returns-then-not-is_kind : goal.returns-then-not-is_kind
returns-then-not-is_kind c q e h =
    absurd (elim c.then-not-is_kind.branch [
      | then-not-is_kind-via-then-not-is_kind w ↦ no c.is_kind.ensures w.if-not-is_kind.true (q, e)
      | then-not-is_kind-via-else-not-is_kind+then-c-word w ↦ omega (arith, w.word.ensures.is)
    ])

pub returns-then-left-le-LOW : goal.returns-then-left-le-LOW
returns-then-left-le-LOW c q e h =
    let t = c.args.t.now in
    let i = c.if-left-le-LOW.true in
    wall_rim t c.args.n c.args.c c.follow.result c.word-left.result (forms_tidy t c.requires.forms c.requires.size_right.most) (record { below = q; kind = e })
    c.word-left.ensures.is (omega arith) c.follow.ensures

pub returns : goal.returns
returns c q e h =
    let t = c.args.t.now in
    let i = c.if-left-le-LOW.false in
    wall_found t c.args.n c.args.c c.find.result c.word-left.result (forms_tidy t c.requires.forms c.requires.size_right.most) (record { below = q; kind = e })
    c.word-left.ensures.is (omega arith) h (c.requires.c_bound q) c.find.ensures.used c.find.ensures.has
