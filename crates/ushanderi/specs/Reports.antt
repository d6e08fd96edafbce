-- The density call: how the windows' count and the report give its promise. Assumes nothing.
use Rattle.std.specs.Prelude.{◌≡◌, List, ℕ, ◌<◌, ◌^◌, ℤ, Float}
use Rattle.std.proofs.Common.{subst, subst₂, arith}
use Rattle.seek.specs.Meaning.{Area, RectRight}
use Rattle.density.specs.Meaning.{Steps, windows_of}
use Rattle.density.specs.Report.{Reports}
use Rattle.density.specs.Reporting.{windows_small}
use Rattle.density.specs.Windows.{covered_windows}
use Rattle.density.specs.Summing.{covered_small}
use Rattle.density.specs.declared.windows.Report.{Report}
use Rattle.ushanderi.specs.Promises.{DensitySays}
use Rattle.ushanderi.specs.declared.reports.DensityAnswer.{DensityAnswer}

-- both counts are numbers of 64 bits
pub windows_long : (A : Area) → RectRight A → (w h : ℕ) → Steps A w h → windows_of A w h < 2 ^ 63
windows_long A a w h s = omega (arith, windows_small A a w h s)

pub covered_long : (t : List ℤ) (A : Area) → RectRight A → (w h : ℕ) → Steps A w h → (old new : List Float) (r : Report) → Reports t A w h old new r
    → r.covered < 2 ^ 63
covered_long t A a w h s old new r o = omega (arith, o.total, covered_windows A a w h s t, covered_small t A a)

-- arguments that are these, read back from the words' bits
pub density_same : {t : List ℤ} {A B : Area} {v w h k : ℕ} {out out' : List Float} {a : DensityAnswer} → A ≡ B → v ≡ w → h ≡ k
    → DensitySays t A v h out out' a → DensitySays t B w k out out' a
density_same {t} {A} {B} {v} {w} {h} {k} {out} {out'} {a} e p q s =
    subst (λ A. DensitySays t A w k out out' a) e (subst₂ (λ w h. DensitySays t A w h out out' a) p q s)
