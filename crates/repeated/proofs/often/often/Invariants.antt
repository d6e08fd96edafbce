-- `often::often` meets its contract. The invariant: the runs so far took the step where it is. Assumes nothing.
use Prim.Native.Nat.{◌+◌}
use denote.Param.Always.{always_mut}
use Rattle.geometry.specs.Picture.{ZERO}
use Rattle.repeated.specs.Often.{Often}
use Rattle.repeated.proofs.often.often.Given as goal

abbrev pub invariant-loop-hint : goal.invariant-loop-hint
invariant-loop-hint g l = record {
  callable : always_mut g.F.FnMut l.step;
  runs : Often (λ f h r k. goal.F-step g f h r k) (l.from + ZERO) l.fn.step l.hint l.last l.step;
}
