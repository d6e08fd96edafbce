-- Two tables with the same picture: as many space tiles in both, and the records of one are those of the other, numbered otherwise. Assumes nothing.
use Rattle.std.specs.Prelude.{◌≡◌, refl, List, ℕ, ◌≤◌, ◌<◌, ℤ, T}
use Rattle.std.proofs.Common.{sym, ap, ◌∙◌, arith, eqb→eq}
use Rattle.geometry.specs.Cases.{lt_cases, eq_cases}
use Rattle.geometry.specs.Count.{inject}
use Rattle.geometry.specs.Picture.{FREE, SPACE}
use Rattle.geometry.specs.Tiling.{eq→eqb}
use Rattle.table.specs.Words.{KIND, records_of, num, tile_of}
use Rattle.table.specs.Sound.{UsedIn, space_at, spaces_in, SolidIn}
use Rattle.ushanderi.specs.Promises.{Fit}
use Rattle.claims.specs.AgreePicture.{picture_turned, tile_once, space_agrees}
use Rattle.claims.specs.Terms.{SamePicture, Twins}

-- a used record with the words of a solid is one
pub solid_by : (t u : List ℤ) (i j : ℕ) → SolidIn t i → UsedIn u j → tile_of u j ≡ tile_of t i → SolidIn u j
solid_by t u i j s v e = record { below = v.below; kind = ap (λ w. w.paint.kind) e ∙ s.kind }

pub twins_back : (t u : List ℤ) (i j : ℕ) → Twins t u i j → Twins u t j i
twins_back t u i j w = record { used = w.twin; twin = w.used; same = sym w.same }

module _ (t u : List ℤ) (f : Fit t) (g : Fit u) (e : SamePicture t u) where
  pub twin : (i : ℕ) → UsedIn t i → (j : ℕ) × Twins t u i j
  twin i v =
      let w = (space_agrees t u f g e (tile_of t i)).0 (record { at = i; used = v; is = refl }) in
      (w.at, record { used = v; twin = w.used; same = w.is })

pub twins_one : (t u : List ℤ) → Fit t → (i j k : ℕ) → Twins t u i k → Twins t u j k → i ≡ j
twins_one t u f i j k v w = tile_once t f i j v.used w.used (sym v.same ∙ w.same)

-- ---- as many space tiles

no_more : (t u : List ℤ) → Fit t → Fit u → SamePicture t u → spaces_in t ≤ spaces_in u
no_more t u f g e = inject (records_of t) (records_of u) (space_at t) (space_at u) (Twins t u) code (twins_one t u f)
  where
    code : (i : ℕ) → i < records_of t → T (space_at t i) → (j : ℕ) × (j < records_of u) × T (space_at u j) × Twins t u i j
    code i h b =
        let k : num t i KIND ≡ SPACE = eqb→eq (num t i KIND) SPACE b in
        let (j, w) = twin t u f g e i (record { below = h; used = λ d. omega arith }) in
        (j, w.twin.below, eq→eqb (num u j KIND) SPACE (ap (λ v. v.paint.kind) w.same ∙ k), w)

pub same_spaces : (t u : List ℤ) → Fit t → Fit u → SamePicture t u → spaces_in t ≡ spaces_in u
same_spaces t u f g e = omega (arith, no_more t u f g e, no_more u t g f (picture_turned t u e))

-- ---- the records of one by those of the other

used_cases : {C : Type 0} (t : List ℤ) (i : ℕ) → (UsedIn t i → C) → ((UsedIn t i → ⊥) → C) → C
used_cases t i f g =
    lt_cases i (records_of t) (λ h. eq_cases (num t i KIND) FREE (λ e. g (λ u. u.used e)) (λ d. f (record { below = h; used = d })))
    (λ h. g (λ u. omega (arith, u.below)))

module _ (t u : List ℤ) (f : Fit t) (g : Fit u) (e : SamePicture t u) where
  -- the record of u for each used record of t, and any number for the others
  renaming : (i : ℕ) → (j : ℕ) × (UsedIn t i → Twins t u i j)
  renaming i = used_cases t i (λ v. let (j, w) = twin t u f g e i v in (j, λ o. w)) (λ n. (0, λ v. absurd (n v)))

  pub renamed : ℕ → ℕ
  renamed i = (renaming i).0

  pub renamed_twin : (i : ℕ) → UsedIn t i → Twins t u i (renamed i)
  unfolding renamed
  renamed_twin i v = (renaming i).1 v

  pub renamed_from : (j : ℕ) → UsedIn u j → (i : ℕ) × UsedIn t i × (renamed i ≡ j)
  renamed_from j v =
      let (i, w) = twin u t g f (picture_turned t u e) j v in
      let o = renamed_twin i w.twin in
      (i, w.twin, twins_one u t g (renamed i) j i (twins_back t u i (renamed i) o) w)
