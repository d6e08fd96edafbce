-- Two answers that delete's promise allows agree wholly, and so do their solids, record by record. Assumes nothing.
use Rattle.std.specs.Prelude.{◌≡◌, List, ℕ, ℤ, pos}
use Rattle.std.proofs.Common.{sym, ◌∙◌, subst, arith}
use Rattle.geometry.specs.Picture.{InPlane}
use Rattle.table.specs.Sound.{SolidIn, SpaceIn}
use Rattle.seek.specs.Find.{Finds}
use Rattle.ushanderi.specs.Answers.{DONE, POINT, SPACE, ROOM, accepted, refused}
use Rattle.ushanderi.specs.declared.answer.Answer.{Answer}
use Rattle.ushanderi.specs.Edits.{Removes, label_in, NoRoom}
use Rattle.ushanderi.specs.Promises.{Unfit, Fit, DeleteRefuses, DeleteDone, DeleteSays}
use Rattle.claims.specs.AgreeChecks.{Then, stops, goes, join, NotFit, not_fit, fit_finds_one, finds_inside, number_is, not_done, unfit_not_done}
use Rattle.claims.specs.Terms.{SamePicture, SameRecords}

-- ---- delete's checks in their order
-- a space tile holds the cell
pub record AtSpace (t : List ℤ) (x y : ℕ) : Type 0 where
  pub at : ℕ
  pub finds : Finds t x y at
  pub space : SpaceIn t at

-- an accepted delete and its answer
pub record Deleted (t : List ℤ) (x y : ℕ) (t' : List ℤ) (a : Answer) : Type 0 where
  pub at : ℕ
  pub done : DeleteDone t x y t' at
  pub is : a ≡ accepted (label_in t at)

abbrev Checked : List ℤ → ℕ → ℕ → List ℤ → Answer → Type 0
Checked t x y t' a =
    Then (InPlane x y → ⊥) ((a ≡ refused POINT) × (t' ≡ t))
    (Then (AtSpace t x y) ((a ≡ refused SPACE) × (t' ≡ t)) (Then (NoRoom t) ((a ≡ refused ROOM) × (t' ≡ t)) (Deleted t x y t' a)))

not_space : (t : List ℤ) (x y i : ℕ) → Fit t → Finds t x y i → SolidIn t i → AtSpace t x y → ⊥
not_space t x y i f h s p =
    let e : SpaceIn t i = subst (λ j. SpaceIn t j) (fit_finds_one t f x y p.at i p.finds h) p.space in
    omega (arith, s.kind)

pub delete_order : (t : List ℤ) (x y : ℕ) (t' : List ℤ) (a : Answer) → DeleteSays t x y t' a
    → Then (NotFit t) (Unfit t a × (t' ≡ t)) (Fit t × Checked t x y t' a)
delete_order t x y t' a (DeleteSays.refuses (DeleteRefuses.unfit n) w) = stops (not_fit t a n) (n, w)
delete_order t x y t' a (DeleteSays.refuses (DeleteRefuses.point f n e) w) = goes (λ m. m f) (f, stops n (e, w))
delete_order t x y t' a (DeleteSays.refuses (DeleteRefuses.space f i h k e) w) =
    goes (λ m. m f) (f, goes (λ m. m (finds_inside t f x y i h)) (stops (record { at = i; finds = h; space = k }) (e, w)))
delete_order t x y t' a (DeleteSays.refuses (DeleteRefuses.room f i h s n e) w) =
    goes (λ m. m f) (f, goes (λ m. m (finds_inside t f x y i h)) (goes (not_space t x y i f h s) (stops n (e, w))))
delete_order t x y t' a (DeleteSays.done i d e) =
    let b = d.allows in
    goes (λ m. m b.fit) (
      b.fit,
      goes (λ m. m (finds_inside t b.fit x y i b.finds)) (goes (not_space t x y i b.fit b.finds b.solid)
          (goes b.room (record { at = i; done = d; is = e }))),
    )

pub delete_done : {t : List ℤ} {x y : ℕ} {t' : List ℤ} {a : Answer} → DeleteSays t x y t' a → a.number ≡ pos DONE → Deleted t x y t' a
delete_done {t} {a = a} (DeleteSays.refuses (DeleteRefuses.unfit n) w) h = absurd (unfit_not_done t a n h)
delete_done (DeleteSays.refuses (DeleteRefuses.point f n e) w) h = absurd (not_done (number_is e) (λ e. omega arith) h)
delete_done (DeleteSays.refuses (DeleteRefuses.space f i m k e) w) h = absurd (not_done (number_is e) (λ e. omega arith) h)
delete_done (DeleteSays.refuses (DeleteRefuses.room f i m s n e) w) h = absurd (not_done (number_is e) (λ e. omega arith) h)
delete_done (DeleteSays.done i d e) h = record { at = i; done = d; is = e }

-- ---- two answers to one delete
pub records_picture : (u v : List ℤ) → SameRecords u v → SamePicture u v
records_picture u v s w = (
  λ h. record { at = h.at; solid = (s.solids h.at).0 h.solid; is = sym (s.tiles h.at h.solid) ∙ h.is },
  λ h. let o = (s.solids h.at).1 h.solid in record { at = h.at; solid = o; is = s.tiles h.at o ∙ h.is },
)

removes_there : (t u v : List ℤ) (i j : ℕ) → Removes t u i → Removes t v i → SolidIn u j → SolidIn v j
removes_there t u v i j p q s = let (o, n) = p.only j s in (q.kept j o n).0

pub removes_same : (t u v : List ℤ) (i : ℕ) → Removes t u i → Removes t v i → SameRecords u v
removes_same t u v i p q =
    record {
      solids = λ j. (removes_there t u v i j p q, removes_there t v u i j q p);
      tiles = λ j s. let (o, n) = p.only j s in join (p.kept j o n).1 (q.kept j o n).1;
    }
