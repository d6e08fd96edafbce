-- The looks over the words of a table: what the last pass reads of a record, and what its tests say together. Assumes nothing.
use Rattle.std.specs.Prelude.{◌≡◌, ◌≢◌, ◌↔◌, true, false, not, List, ℕ, ◌≤◌, ◌<◌, T, ℤ}
use Rattle.std.proofs.Common.{sym, ap, ◌∙◌, subst, subst₂, arith, T_not}
use Rattle.geometry.specs.Cases.{eq_cases}
use Rattle.geometry.specs.Find.{AtRight, InRow, right_first, right_next}
use Rattle.geometry.specs.Picture.{ZERO, HIGH, FREE, SPACE, SOLID, In, Joined}
use Rattle.geometry.specs.Plane.{Is, Holds}
use Rattle.geometry.specs.Stitches.{HoldsUp, Up, on_top}
use Rattle.geometry.specs.Tiling.{solid_used, eq→eqb, neq→eqb}
use Rattle.table.specs.Words.{BOTTOM, RIGHT, TOP, TR, RT, BL, LB, KIND, LABEL, num, records_of, tile_of}
use Rattle.table.specs.Sound.{UsedIn}
use Rattle.table.specs.Forms.{plane_in, stitches_in, none, link, Forms, solid_set, used_is, is_used, in_solid, solid_in}
use Rattle.sound.specs.Looks.{Agree, Notch, Looks, looks_exact, up_holds}
use Rattle.sound.specs.Passed.{kinded_kind}

abbrev pub AgreeIn : List ℤ → ℕ → ℕ → Type 0
AgreeIn t i j = Agree (solid_set t) i j

-- ---- what a test answers

pub holds : {P : Type 0} → P → T true ↔ P
holds p = (λ _. p, λ _. tt)

pub fails : {P : Type 0} → (P → ⊥) → T false ↔ P
fails n = (λ b. absurd b, n)

pub via : {A B C : Type 0} → A ↔ B → B ↔ C → A ↔ C
via p q = (λ a. q.0 (p.0 a), λ c. p.1 (q.1 c))

-- ---- labels

module _ (t : List ℤ) (f : Forms t) where
  -- a solid's label is not 0, and where the label is not 0 there is a solid
  solid_label : (i : ℕ) → In (solid_set t) i → ZERO < num t i LABEL
  solid_label i u = (kinded_kind t i (f.widest.kinded i (solid_used (records_of t) (tile_of t) i u.below u.is))).solid (in_solid t i u).kind

  label_solid : (i : ℕ) → i < records_of t → num t i LABEL ≢ ZERO → In (solid_set t) i
  label_solid i h n =
      eq_cases (num t i KIND) FREE
      (λ e. absurd (n (f.zeros i h e LABEL (omega arith))))
      (λ d.
      let k = kinded_kind t i (f.widest.kinded i (record { below = h; used = d })) in
      eq_cases (num t i KIND) SPACE (λ e. absurd (n (k.space e))) (λ e. solid_in t i (record { below = h; kind = omega arith })))

  pub blank_first : (i j : ℕ) → num t i LABEL ≡ ZERO → AgreeIn t i j
  blank_first i j e u v = absurd (omega (arith, solid_label i u))

  pub blank_second : (i j : ℕ) → num t j LABEL ≡ ZERO → AgreeIn t i j
  blank_second i j e u v = absurd (omega (arith, solid_label j v))

  pub differ : (i j : ℕ) → i < records_of t → j < records_of t → num t i LABEL ≢ ZERO → num t j LABEL ≢ ZERO
      → num t i LABEL ≢ num t j LABEL → AgreeIn t i j → ⊥
  differ i j h k a b n g = n (g (label_solid i h a) (label_solid j k b))

-- ---- the walk down a right side

-- k is the last tile down the right side of a: it holds the cell beyond a's lowest row
abbrev pub LastRight : List ℤ → ℕ → ℕ → Type 0
LastRight t a k = Holds (plane_in t) k (num t a RIGHT) (num t a BOTTOM)

-- k is met on the way down
abbrev pub GoingDown : List ℤ → ℕ → ℕ → Type 0
GoingDown t a k = AtRight (plane_in t) a k (num t a BOTTOM)

module _ (t : List ℤ) (f : Forms t) (a : ℕ) (u : UsedIn t a) where
  row : InRow (plane_in t) a (num t a BOTTOM)
  row = let w = f.good.formed a (used_is t a u) in record { is = used_is t a u; bottom = omega arith; top = omega arith }

  pub down_start : num t a RIGHT < HIGH → GoingDown t a (link (num t a TR))
  down_start h = right_first (plane_in t) (stitches_in t) f.good a (num t a BOTTOM) row (omega arith)

  pub down_next : (k : ℕ) → GoingDown t a k → num t a BOTTOM < num t k BOTTOM → GoingDown t a (link (num t k LB)) × (num t (link (num t k LB)) BOTTOM < num t k BOTTOM)
  down_next k s h = right_next (plane_in t) (stitches_in t) f.good a k (num t a BOTTOM) row s h

  pub down_ends : (k : ℕ) → GoingDown t a k → num t k BOTTOM ≤ num t a BOTTOM → LastRight t a k
  down_ends k s h = let w = f.good.formed k s.is in record { is = s.is; at = omega arith }

-- ---- the upper right corner

abbrev NotchIn : List ℤ → ℕ → Type 0
NotchIn t i = Notch (plane_in t) (stitches_in t) (solid_set t) i

-- the look at it: i and the tile m that holds the cell beyond
abbrev pub CornerAgrees : List ℤ → ℕ → Type 0
CornerAgrees t i = NotchIn t i → (m : ℕ) → Holds (plane_in t) m (num t i RIGHT) (num t i TOP) → AgreeIn t i m

-- a is the number that was read of the tile over i's last column
module _ (t : List ℤ) (i a : ℕ) (e : a ≡ link (num t i RT)) where
  pub corner_wider : num t a RIGHT ≢ num t i RIGHT → CornerAgrees t i
  corner_wider d n m k = absurd (d (ap (λ j. num t j RIGHT) e ∙ n.ends))

  pub corner_solid : num t a KIND ≡ SOLID → CornerAgrees t i
  corner_solid d n m k =
      let r = link (num t i RT) in
      absurd (T_not ((solid_set t).is r) n.space (eq→eqb (num t r KIND) SOLID (ap (λ j. num t j KIND) (sym e) ∙ d)))

-- where it is a record: the last tile down its right side is the one at the corner
module _ (t : List ℤ) (i a : ℕ) (e : a ≡ link (num t i RT)) (f : Forms t) (u : UsedIn t i) (b : a < records_of t) where
  over_holds : HoldsUp (plane_in t) a (num t i RIGHT) (num t i TOP)
  over_holds =
      up_holds (plane_in t) (stitches_in t) f.good a (num t i RIGHT) (num t i TOP) b
      (subst (λ j. Up (plane_in t) none j (num t i RIGHT) (num t i TOP)) (sym e) (f.good.rt i (used_is t i u)))

  pub over_used : UsedIn t a
  over_used = is_used t a over_holds.is

  over_stands : num t a BOTTOM ≡ num t i TOP
  over_stands =
      let w = f.good.formed i (used_is t i u) in
      on_top (plane_in t) f.good.formed f.good.disjoint i a (num t i RIGHT) (used_is t i u) over_holds (omega arith) (omega arith)

  notch : num t i RIGHT < HIGH → num t a RIGHT ≡ num t i RIGHT → num t a KIND ≢ SOLID → NotchIn t i
  notch h d n = record {
    is = subst (Is (plane_in t)) e over_holds.is;
    space = subst (λ j. T (not ((solid_set t).is j))) e (neq→eqb (num t a KIND) SOLID n);
    ends = subst (λ j. num t j RIGHT ≡ num t i RIGHT) e d;
    before = omega arith;
  }

  pub corner_last : (m : ℕ) → num t i RIGHT < HIGH → num t a RIGHT ≡ num t i RIGHT → num t a KIND ≢ SOLID → LastRight t a m
      → AgreeIn t i m ↔ CornerAgrees t i
  corner_last m h d n l = (
    (λ g c k q. subst (AgreeIn t i) (f.good.disjoint m k (num t i RIGHT) (num t i TOP) there q) g),
    (λ c. c (notch h d n) m there),
  )
    where
      there : Holds (plane_in t) m (num t i RIGHT) (num t i TOP)
      there = record { is = l.is; at = omega (arith, l.at, d, over_stands) }

-- ---- the looks of a record

-- those of a solid, at its upper right corner
pub record Ahead (t : List ℤ) (i : ℕ) : Type 0 where
  pub right : AgreeIn t i (link (num t i TR))
  pub over : AgreeIn t i (link (num t i RT))
  pub corner : CornerAgrees t i

-- all, if the record is used
abbrev pub LooksAt : List ℤ → ℕ → Type 0
LooksAt t i = num t i KIND ≢ FREE → Looks (plane_in t) (stitches_in t) (solid_set t) i

module _ (t : List ℤ) (i a b : ℕ) (ea : a ≡ link (num t i TR)) (eb : b ≡ link (num t i RT)) where
  pub ahead_all : AgreeIn t i a → AgreeIn t i b → CornerAgrees t i ↔ Ahead t i
  ahead_all p q = ((λ c. record { right = subst (AgreeIn t i) ea p; over = subst (AgreeIn t i) eb q; corner = c }), (λ h. h.corner))

  pub not_over : (AgreeIn t i b → ⊥) → Ahead t i → ⊥
  not_over n h = n (subst (AgreeIn t i) (sym eb) h.over)

pub not_right : (t : List ℤ) (i a : ℕ) → a ≡ link (num t i TR) → (AgreeIn t i a → ⊥) → Ahead t i → ⊥
not_right t i a e n h = n (subst (AgreeIn t i) (sym e) h.right)

module _ (t : List ℤ) (i a b : ℕ) (ea : a ≡ link (num t i BL)) (eb : b ≡ link (num t i LB)) where
  pub looks_space : num t i KIND ≢ SOLID → AgreeIn t a b → LooksAt t i
  looks_space n g _ =
      record { back = subst₂ (AgreeIn t) ea eb g; right = λ u. no_solid u; over = λ u. no_solid u; corner = λ c m h u. no_solid u }
    where
      no_solid : {C : Type 0} → In (solid_set t) i → C
      no_solid u = absurd (n (in_solid t i u).kind)

  pub looks_solid : num t i KIND ≢ FREE → AgreeIn t a b → Ahead t i ↔ LooksAt t i
  looks_solid n g = (
    (λ h _. record { back = subst₂ (AgreeIn t) ea eb g; right = h.right; over = h.over; corner = h.corner }),
    (λ l. record { right = (l n).right; over = (l n).over; corner = (l n).corner }),
  )

  pub not_back : num t i KIND ≢ FREE → (AgreeIn t a b → ⊥) → LooksAt t i → ⊥
  not_back n g l = g (subst₂ (AgreeIn t) (sym ea) (sym eb) (l n).back)

-- ---- of all records

pub looks_all : (t : List ℤ) → Forms t → ((i : ℕ) → i < records_of t → LooksAt t i) → Joined (solid_set t)
looks_all t f a = (looks_exact (records_of t) (tile_of t) (stitches_in t) f.good).0 (λ i u. a i u.below u.used)

pub not_looks : (t : List ℤ) (i : ℕ) → Forms t → i < records_of t → (LooksAt t i → ⊥) → Joined (solid_set t) → ⊥
not_looks t i f h n j = n (λ e. (looks_exact (records_of t) (tile_of t) (stitches_in t) f.good).1 j i (record { below = h; used = e }))
