-- Two density reports that the promise allows agree: number, value, both shares, the total and every entry of the lent list. Assumes nothing.
use Rattle.std.specs.Prelude.{◌≡◌, List, ℕ, ◌*◌, ◌<◌, ℤ, pos, Float, length}
use Rattle.std.proofs.Common.{sym, ap, ap₂, ◌∙◌, arith, ext_get_or}
use Rattle.geometry.specs.Cases.{lt_cases}
use Rattle.seek.specs.Meaning.{Area, RectRight}
use Rattle.density.specs.Meaning.{Steps, windows_of, count_of}
use Rattle.density.specs.Shares.{float, share_of}
use Rattle.density.specs.Report.{Lowest, Highest, Written, Reports}
use Rattle.density.specs.declared.windows.Report.{Report}
use Rattle.ushanderi.specs.Answers.{DONE, RECT, SHORT, STEP, answered, refused, reported, unreported}
use Rattle.ushanderi.specs.declared.answer.Answer.{Answer}
use Rattle.ushanderi.specs.declared.reports.DensityAnswer.{DensityAnswer}
use Rattle.ushanderi.specs.Promises.{Unfit, DensitySays}
use Rattle.claims.specs.AgreeChecks.{Then, stops, goes, same, join, NotFit, not_fit, unfit_agrees, not_done, unfit_not_done}
use Rattle.claims.specs.Terms.{Given}

-- ---- one report

lowest_one : (f : ℕ → ℕ) (n i j : ℕ) → Lowest f n i → Lowest f n j → i ≡ j
lowest_one f n i j p q = omega (arith, p.is, q.is, p.least q.at q.below, q.least p.at p.below)

highest_one : (f : ℕ → ℕ) (n i j : ℕ) → Highest f n i → Highest f n j → i ≡ j
highest_one f n i j p q = omega (arith, p.is, q.is, p.most q.at q.below, q.most p.at p.below)

reported_same : (n : ℕ) (r s : Report) → r.lowest ≡ s.lowest → r.highest ≡ s.highest → r.covered ≡ s.covered → reported n r ≡ reported n s
reported_same n r s l h c =
    ap₂ (λ l h. record { number = pos DONE; value = pos n; lowest = l; highest = h; covered = pos r.covered }) l h
    ∙ ap (λ c. record { number = pos DONE; value = pos n; lowest = s.lowest; highest = s.highest; covered = pos c }) c

module _ (t : List ℤ) (A : Area) (w h : ℕ) (out u v : List Float) where
  -- every entry is a window's share, or kept
  written_one : (n : ℕ) → Written t A w h out u n → Written t A w h out v n → u ≡ v
  written_one n p q =
      ext_get_or (float 0) u v (join p.long q.long)
      (λ m l. lt_cases m n (λ b. join (p.shares m b) (q.shares m b)) (λ b. join (p.rest m b) (q.rest m b)))

  reports_agree : (r s : Report) → Reports t A w h out u r → Reports t A w h out v s → (reported (windows_of A w h) r ≡ reported (windows_of A w h) s) × (u ≡ v)
  reports_agree r s p q =
      let n = windows_of A w h in
      let f = count_of t A w h in
      let share : ℕ → Float = λ c. share_of c (w * h) in (
        reported_same n r s
            (p.lowest ∙ ap share (lowest_one f n p.least q.least p.least_is q.least_is) ∙ sym q.lowest)
            (p.highest ∙ ap share (highest_one f n p.most q.most p.most_is q.most_is) ∙ sym q.highest)
            (join p.total q.total),
        written_one n p.written q.written,
      )

-- ---- the checks in their order

-- refused, the list left
abbrev Left : List Float → List Float → DensityAnswer → Answer → Type 0
Left out out' a b = (a ≡ unreported b) × (out' ≡ out)

record Stopped (t : List ℤ) (out out' : List Float) (a : DensityAnswer) : Type 0 where
  with : Answer
  unfit : Unfit t with
  left : Left out out' a with

abbrev InOrder : List ℤ → Area → ℕ → ℕ → List Float → List Float → DensityAnswer → Type 0
InOrder t A w h out out' a =
    Then (NotFit t) (Stopped t out out' a)
    (Then (RectRight A → ⊥) (Left out out' a (refused RECT))
    (Then (Steps A w h → ⊥) (Left out out' a (refused STEP))
    (Then (length out < windows_of A w h) (Left out out' a (answered SHORT (windows_of A w h))) (Given t A w h out out' a))))

density_order : (t : List ℤ) (A : Area) (w h : ℕ) (out out' : List Float) (a : DensityAnswer) → DensitySays t A w h out out' a → InOrder t A w h out out' a
density_order t A w h out out' a (DensitySays.unfit b n e z) = stops (not_fit t b n) (record { with = b; unfit = n; left = (e, z) })
density_order t A w h out out' a (DensitySays.rect f n e z) = goes (λ m. m f) (stops n (e, z))
density_order t A w h out out' a (DensitySays.step f r n e z) = goes (λ m. m f) (goes (λ m. m r) (stops n (e, z)))
density_order t A w h out out' a (DensitySays.short f r s o e z) = goes (λ m. m f) (goes (λ m. m r) (goes (λ m. m s) (stops o (e, z))))
density_order t A w h out out' a (DensitySays.done f r s o g p e) =
    goes (λ m. m f) (goes (λ m. m r) (goes (λ m. m s) (goes (λ m. omega arith) (record { rect = r; steps = s; report = g; reports = p; is = e }))))

module _ (t : List ℤ) (A : Area) (w h : ℕ) (out u v : List Float) (a b : DensityAnswer) where
  stopped_agrees : Stopped t out u a → Stopped t out v b → (a ≡ b) × (u ≡ v)
  stopped_agrees p q =
      (p.left.0 ∙ ap unreported (unfit_agrees t p.with q.with p.unfit q.unfit) ∙ sym q.left.0, join p.left.1 q.left.1)

  left_agrees : (r : Answer) → Left out u a r → Left out v b r → (a ≡ b) × (u ≡ v)
  left_agrees r p q = (join p.0 q.0, join p.1 q.1)

  given_agrees : Given t A w h out u a → Given t A w h out v b → (a ≡ b) × (u ≡ v)
  given_agrees p q =
      let (e, z) = reports_agree t A w h out u v p.report q.report p.reports q.reports in
      (p.is ∙ e ∙ sym q.is, z)

  pub density_agrees : DensitySays t A w h out u a → DensitySays t A w h out v b → (a ≡ b) × (u ≡ v)
  density_agrees p q = same
      stopped_agrees
      (same (left_agrees (refused RECT)) (same (left_agrees (refused STEP)) (same (left_agrees (answered SHORT (windows_of A w h))) given_agrees)))
      (density_order t A w h out u a p) (density_order t A w h out v b q)

-- ---- by the answer's number

-- the number of a refused report
pub report_number : {a : DensityAnswer} {n value : ℕ} → a ≡ unreported (answered n value) → a.number ≡ pos n
report_number e = ap (λ a. a.number) e

-- DONE is the one case of that name
pub density_done : {t : List ℤ} {A : Area} {w h : ℕ} {out out' : List Float} {a : DensityAnswer} → DensitySays t A w h out out' a → a.number ≡ pos DONE
    → Given t A w h out out' a
density_done {t} (DensitySays.unfit b n e z) d = absurd (unfit_not_done t b n (sym (ap (λ a. a.number) e) ∙ d))
density_done (DensitySays.rect f n e z) d = absurd (not_done (report_number e) (λ e. omega arith) d)
density_done (DensitySays.step f r n e z) d = absurd (not_done (report_number e) (λ e. omega arith) d)
density_done (DensitySays.short f r s o e z) d = absurd (not_done (report_number e) (λ e. omega arith) d)
density_done (DensitySays.done f r s o g p e) d = record { rect = r; steps = s; report = g; reports = p; is = e }
