-- Two answers that create's promise allows agree, but for the records of new solids and of space tiles; and creates on two tables of one picture
-- go alike. Assumes nothing.
use Rattle.std.specs.Prelude.{◌≡◌, ◌≢◌, List, ℕ, ◌/◌, ◌≤◌, ℤ, pos}
use Rattle.std.proofs.Math.Path.{sym}
use Rattle.std.proofs.Common.{ap, ◌∙◌, subst, arith}
use Rattle.geometry.specs.Cases.{eq_cases}
use Rattle.geometry.specs.Picture.{ZERO, Tile, Has}
use Rattle.table.specs.Words.{WIDTH, records_of, tile_of}
use Rattle.table.specs.Sound.{capacity, solids_in}
use Rattle.seek.specs.Meaning.{Area, RectRight, First}
use Rattle.seek.specs.Search.{free_no_first}
use Rattle.ushanderi.specs.Answers.{DONE, RECT, LABEL, OCCUPIED, FULL, answered, refused, with_cell, without_cell}
use Rattle.ushanderi.specs.declared.answer.MetAnswer.{MetAnswer}
use Rattle.ushanderi.specs.Edits.{drawn, Adds, Edited}
use Rattle.ushanderi.specs.Promises.{Fit, CreateRefuses, CreateSays}
use Rattle.ushanderi.specs.Editing.{refusal}
use Rattle.claims.specs.AgreeChecks.{Then, stops, goes, both, same, join, NotFit, not_fit, UnfitMet, met_one, met_number, one_cell, not_done}
use Rattle.claims.specs.AgreePicture.{picture_turned, shows, picture_count}
use Rattle.claims.specs.AgreeTables.{Alike, alike_turned}
use Rattle.claims.specs.Terms.{Shows, SamePicture, OneCell, Created}

-- ---- create's checks in their order
pub record Met (t : List ℤ) (A : Area) : Type 0 where
  pub x : ℕ
  pub y : ℕ
  pub i : ℕ
  pub first : First t A x y i

pub record Occupied (t : List ℤ) (A : Area) (a : MetAnswer) : Type 0 where
  pub met : Met t A
  pub is : a ≡ with_cell (answered OCCUPIED met.i) met.x met.y

abbrev Checked : List ℤ → Area → ℕ → List ℤ → MetAnswer → Type 0
Checked t A label t' a =
    Then (RectRight A → ⊥) ((a ≡ without_cell (refused RECT)) × (t' ≡ t))
    (Then (label ≤ ZERO) ((a ≡ without_cell (refused LABEL)) × (t' ≡ t))
    (Then (Met t A) (Occupied t A a × (t' ≡ t))
    (Then (solids_in t ≡ capacity (records_of t)) ((a ≡ without_cell (refused FULL)) × (t' ≡ t)) (Created t A label t' a))))

pub create_order : (t : List ℤ) (A : Area) (label : ℕ) (t' : List ℤ) (a : MetAnswer) → CreateSays t A label t' a
    → Then (NotFit t) (UnfitMet t a × (t' ≡ t)) (Fit t × Checked t A label t' a)
create_order t A label t' a (CreateSays.refuses (CreateRefuses.unfit b n e) w) = stops (not_fit t b n) (record { with = b; unfit = n; is = e }, w)
create_order t A label t' a (CreateSays.refuses (CreateRefuses.rect f n e) w) = goes (λ m. m f) (f, stops n (e, w))
create_order t A label t' a (CreateSays.refuses (CreateRefuses.label f r l e) w) = goes (λ m. m f) (f, goes (λ m. m r) (stops l (e, w)))
create_order t A label t' a (CreateSays.refuses (CreateRefuses.occupied f r l x y i h e) w) =
    let m : Met t A = record { x = x; y = y; i = i; first = h } in
    goes (λ m. m f) (f, goes (λ m. m r) (goes (λ h. omega arith) (stops m (record { met = m; is = e }, w))))
create_order t A label t' a (CreateSays.refuses (CreateRefuses.full f r l h n e) w) =
    goes (λ m. m f) (f, goes (λ m. m r) (goes (λ h. omega arith) (goes (λ m. free_no_first t A m.x m.y m.i h m.first) (stops n (e, w)))))
create_order t A label t' a (CreateSays.done k d e) =
    let b = d.allows in
    goes (λ m. m b.fit) (
      b.fit,
      goes (λ m. m b.rect) (goes (λ h. omega (arith, b.named)) (goes (λ m. free_no_first t A m.x m.y m.i b.free m.first)
          (goes (λ h. omega (arith, b.few)) (record { at = k; done = d; is = e })))),
    )

-- no refusal is DONE
pub refuses_not_done : {t : List ℤ} {A : Area} {label : ℕ} {a : MetAnswer} → CreateRefuses t A label a → a.number ≢ pos DONE
refuses_not_done {t} {A} {label} {a} r h = let f = refusal t A label a r in not_done f.is (λ e. omega (arith, f.some)) h

pub create_done : {t : List ℤ} {A : Area} {label : ℕ} {t' : List ℤ} {a : MetAnswer} → CreateSays t A label t' a → a.number ≡ pos DONE → Created t A label t' a
create_done (CreateSays.refuses r w) h = absurd (refuses_not_done r h)
create_done (CreateSays.done k d e) h = record { at = k; done = d; is = e }

-- on a fit table
create_checked : (t : List ℤ) (A : Area) (label : ℕ) (t' : List ℤ) (a : MetAnswer) → Fit t → CreateSays t A label t' a → Checked t A label t' a
create_checked t A label t' a f c = go (create_order t A label t' a c)
  where
    go : Then (NotFit t) (UnfitMet t a × (t' ≡ t)) (Fit t × Checked t A label t' a) → Checked t A label t' a
    go (stops n r) = absurd (n f)
    go (goes n q) = q.1

-- ---- the picture after a create is settled by the picture before it
adds_there : (u v u' v' : List ℤ) (i j : ℕ) (w : Tile) → SamePicture u v → Adds u u' i w → Adds v v' j w → (z : Tile) → Shows u' z → Shows v' z
adds_there u v u' v' i j w p a b z s = eq_cases s.at i
    (λ e. record { at = j; solid = b.new; is = b.is ∙ sym a.is ∙ ap (tile_of u') (sym e) ∙ s.is })
    (λ n.
    let o = a.only s.at s.solid n in
    let q = (p (tile_of u s.at)).0 (shows u s.at o) in
    let (m, c) = b.kept q.at q.solid in
    record { at = q.at; solid = m; is = c ∙ q.is ∙ sym (a.kept s.at o).1 ∙ s.is })

adds_picture : (u v u' v' : List ℤ) (i j : ℕ) (w : Tile) → SamePicture u v → Adds u u' i w → Adds v v' j w → SamePicture u' v'
adds_picture u v u' v' i j w p a b z =
    (adds_there u v u' v' i j w p a b z, adds_there v u v' u' j i w (picture_turned u v p) b a z)

pub edited_fit : (t t' : List ℤ) → Fit t → Edited t t' → Fit t'
edited_fit t t' f e =
    let s = f.size in
    let l = e.size in
    record { size = record { whole = omega arith; least = omega arith; most = omega arith }; sound = e.sound }

-- ---- creates on two tables of one picture
met_there : (u v : List ℤ) → SamePicture u v → (A : Area) → Met u A → Met v A
met_there u v p A m =
    let f = m.first in
    let s = (p (tile_of u m.i)).0 (shows u m.i f.solid) in
    record {
      x = m.x;
      y = m.y;
      i = s.at;
      first =
          record {
            inside = f.inside;
            solid = s.solid;
            has = subst (λ w. Has w m.x m.y) (sym s.is) f.has;
            none_before = λ x y a b k o h.
                let q = (p (tile_of v k)).1 (shows v k o) in
                f.none_before x y a b q.at q.solid (subst (λ w. Has w x y) (sym q.is) h);
          };
    }

full_there : (u v : List ℤ) → Alike u v → solids_in u ≡ capacity (records_of u) → solids_in v ≡ capacity (records_of v)
full_there u v l e = sym (picture_count u v l.left l.right l.picture) ∙ e ∙ ap (λ n. capacity (n / WIDTH)) l.size

-- the same number and the same cell, and after DONE the same picture again
pub record GoAlike (u' v' : List ℤ) (a b : MetAnswer) : Type 0 where
  pub number : a.number ≡ b.number
  pub cell : OneCell a b
  pub done : a.number ≡ pos DONE → Alike u' v'

module _ (u v : List ℤ) (A : Area) (label : ℕ) (u' v' : List ℤ) (a b : MetAnswer) where
  both_refused : (n : ℕ) → n ≢ DONE → a.number ≡ pos n → b.number ≡ pos n → OneCell a b → GoAlike u' v' a b
  both_refused n d p q c = record { number = join p q; cell = c; done = λ h. absurd (not_done p d h) }

  both_zero : (n : ℕ) → n ≢ DONE → a ≡ without_cell (refused n) → b ≡ without_cell (refused n) → GoAlike u' v' a b
  both_zero n d p q = both_refused n d (met_number p) (met_number q) (one_cell p q)

  -- the first occupied cell is the picture's
  both_occupied : Alike u v → Occupied u A a → Occupied v A b → GoAlike u' v' a b
  unfolding met_there
  both_occupied l p q =
      let m = met_there u v l.picture A p.met in
      let n = q.met in
      let e = met_one v l.right A OCCUPIED m.x m.y m.i n.x n.y n.i m.first n.first in
      both_refused OCCUPIED (λ e. omega arith) (met_number p.is) (met_number q.is) (one_cell p.is (q.is ∙ sym e))

  pub both_created : Alike u v → Created u A label u' a → Created v A label v' b → GoAlike u' v' a b
  both_created l p q =
      record {
        number = join (met_number p.is) (met_number q.is);
        cell = one_cell p.is q.is;
        done = λ h.
            record {
              left = edited_fit u u' l.left p.done.edited;
              right = edited_fit v v' l.right q.done.edited;
              size = p.done.edited.size ∙ l.size ∙ sym q.done.edited.size;
              picture = adds_picture u v u' v' p.at q.at (drawn A label) l.picture p.done.adds q.done.adds;
            };
      }

  pub create_alike : Alike u v → CreateSays u A label u' a → CreateSays v A label v' b → GoAlike u' v' a b
  create_alike l p q =
      same (λ r s. both_zero RECT (λ e. omega arith) r.0 s.0)
      (same (λ r s. both_zero LABEL (λ e. omega arith) r.0 s.0)
      (both (met_there u v l.picture A) (met_there v u (picture_turned u v l.picture) A)
      (λ r s. both_occupied l r.0 s.0)
      (both (full_there u v l) (full_there v u (alike_turned u v l)) (λ r s. both_zero FULL (λ e. omega arith) r.0 s.0) (both_created l))))
      (create_checked u A label u' a l.left p) (create_checked v A label v' b l.right q)
