-- 02's #102, where a call is blocked: what the cell of an answer is, and which answers carry 0 and 0, as follows from the promises. So none of them
-- allows the solid's own corner in place of the cell, or a refusal, an accepted create or a load that names one. Assumes nothing.
use Rattle.std.specs.Prelude.{◌≡◌, refl, ◌≢◌, ◌⊎◌, List, ℕ, suc, ◌<◌, ℤ, pos, negsuc, length}
use Rattle.std.proofs.Common.{sym, ap, ◌∙◌, subst₂, ⊎_elim, arith}
use Rattle.ruler.specs.Ruler.{ruler, ruler_word}
use Rattle.table.specs.Words.{LEFT, TOP, num}
use Rattle.seek.specs.Meaning.{Area, RectRight, First}
use Rattle.ushanderi.specs.Answers.{DONE, OCCUPIED, answered, accepted, with_cell, without_cell}
use Rattle.ushanderi.specs.declared.answer.Answer.{Answer}
use Rattle.ushanderi.specs.declared.answer.MetAnswer.{MetAnswer}
use Rattle.ushanderi.specs.Promises.{Unfit, Fit, SearchSays, CreateRefuses, CreateSays, LoadStops, LoadSays}
use Rattle.claims.specs.AgreeChecks.{met_number, one_cell, number_one, not_done, unfit_not_done}
use Rattle.claims.specs.AgreeReads.{search_agrees}
use Rattle.claims.specs.AgreeCreate.{create_alike}
use Rattle.claims.specs.Terms.{SamePicture, OneCell}
use Rattle.claims.specs.Shams.{negative}

-- ---- the cell

-- the answer's value is the solid that holds the area's first occupied cell, and its two fields are that cell
pub record Blocks (t : List ℤ) (R : Area) (a : MetAnswer) : Type 0 where
  pub at : ℕ
  pub value : a.value ≡ pos at
  pub first : First t R (ruler a.x) (ruler a.y) at

blocks : (t : List ℤ) (R : Area) (number x y i : ℕ) (a : MetAnswer) → RectRight R → First t R x y i → a ≡ with_cell (answered number i) x y → Blocks t R a
blocks t R number x y i a r f e =
    let column : ruler a.x ≡ x = ap (λ a. ruler a.x) e ∙ ruler_word x (omega (arith, f.inside, r.to_right)) in
    let row : ruler a.y ≡ y = ap (λ a. ruler a.y) e ∙ ruler_word y (omega (arith, f.inside, r.to_top)) in
    record { at = i; value = ap (λ a. a.value) e; first = subst₂ (λ x y. First t R x y i) (sym column) (sym row) f }

-- an accepted search says -1, or tells the solid and the cell
pub search_blocked : (t : List ℤ) (R : Area) (a : MetAnswer) → SearchSays t R a → a.number ≡ pos DONE → a.value ≢ negsuc 0 → Blocks t R a
search_blocked t R a (SearchSays.unfit b u e) d v = absurd (unfit_not_done t b u (sym (ap (λ a. a.number) e) ∙ d))
search_blocked t R a (SearchSays.rect f n e) d v = absurd (not_done (met_number e) (λ e. omega arith) d)
search_blocked t R a (SearchSays.free f r h e) d v = absurd (v (ap (λ a. a.value) e))
search_blocked t R a (SearchSays.met f r x y i h e) d v = blocks t R DONE x y i a r h e

-- OCCUPIED hands on what a search of the rectangle gives: the solid and the cell
pub record HandsOn (t : List ℤ) (R : Area) (a : MetAnswer) : Type 0 where
  pub blocks : Blocks t R a
  pub search : (b : MetAnswer) → SearchSays t R b → (b.number ≡ pos DONE) × (b.value ≡ a.value) × OneCell b a

hands_on : (t : List ℤ) (R : Area) (label : ℕ) (a : MetAnswer) → CreateRefuses t R label a → a.number ≡ pos OCCUPIED → HandsOn t R a
hands_on t R label a (CreateRefuses.unfit b (Unfit.size n d) e) h = absurd (omega (arith, number_one (met_number (e ∙ ap without_cell d)) h))
hands_on t R label a (CreateRefuses.unfit b (Unfit.unsound z n d) e) h = absurd (omega (arith, number_one (met_number (e ∙ ap without_cell d)) h))
hands_on t R label a (CreateRefuses.rect f n e) h = absurd (omega (arith, number_one (met_number e) h))
hands_on t R label a (CreateRefuses.label f r l e) h = absurd (omega (arith, number_one (met_number e) h))
hands_on t R label a (CreateRefuses.occupied f r l x y i m e) h = record { blocks = blocks t R OCCUPIED x y i a r m e; search = as_searched }
  where
    as_searched : (b : MetAnswer) → SearchSays t R b → (b.number ≡ pos DONE) × (b.value ≡ a.value) × OneCell b a
    as_searched b s =
        let q = search_agrees t R b (with_cell (accepted i) x y) s (SearchSays.met f r x y i m refl) in (
          met_number q,
          ap (λ a. a.value) q ∙ sym (ap (λ a. a.value) e),
          one_cell q e,
        )
hands_on t R label a (CreateRefuses.full f r l m c e) h = absurd (omega (arith, number_one (met_number e) h))

pub create_hands_on : (t : List ℤ) (R : Area) (label : ℕ) (t' : List ℤ) (a : MetAnswer) → CreateSays t R label t' a → a.number ≡ pos OCCUPIED → HandsOn t R a
create_hands_on t R label t' a (CreateSays.refuses o w) h = hands_on t R label a o h
create_hands_on t R label t' a (CreateSays.done k d e) h = absurd (omega (arith, number_one (met_number e) h))

-- the cell is the picture's, whatever the records
pub picture_cell : (u v : List ℤ) (R : Area) (label : ℕ) (u' v' : List ℤ) (a b : MetAnswer) → Fit u → Fit v → length u ≡ length v → SamePicture u v
    → CreateSays u R label u' a → CreateSays v R label v' b → OneCell a b
picture_cell u v R label u' v' a b f g l p r s =
    (create_alike u v R label u' v' a b (record { left = f; right = g; size = l; picture = p }) r s).cell

module _ (t : List ℤ) (R : Area) (a : MetAnswer) (n : Blocks t R a) where
  -- the solid's own corner in place of the cell: its left edge where it begins left of the area, its highest row where it reaches over the area
  pub not_its_left : num t n.at LEFT < R.left → ruler a.x ≢ num t n.at LEFT
  not_its_left h e = omega (arith, n.first.inside)

  pub not_its_top : R.top < num t n.at TOP → suc (ruler a.y) ≢ num t n.at TOP
  not_its_top h e = omega (arith, n.first.inside)

-- ---- no cell

abbrev pub NoCell : MetAnswer → Type 0
NoCell a = (a.x ≡ pos 0) × (a.y ≡ pos 0)

bare : {a : MetAnswer} {b : Answer} → a ≡ without_cell b → NoCell a
bare e = (ap (λ a. a.x) e, ap (λ a. a.y) e)

-- a refused search, and one that finds nothing
pub search_bare : (t : List ℤ) (R : Area) (a : MetAnswer) → SearchSays t R a → (a.number ≢ pos DONE) ⊎ (a.value ≡ negsuc 0) → NoCell a
search_bare t R a (SearchSays.unfit b u e) n = bare e
search_bare t R a (SearchSays.rect f m e) n = bare e
search_bare t R a (SearchSays.free f r h e) n = bare e
search_bare t R a (SearchSays.met f r x y i h e) n = absurd (⊎_elim (λ k. k (met_number e)) (λ v. negative i (sym v ∙ ap (λ a. a.value) e)) n)

-- a create that is done, or refused for anything but what is in the way
pub create_bare : (t : List ℤ) (R : Area) (label : ℕ) (t' : List ℤ) (a : MetAnswer) → CreateSays t R label t' a → a.number ≢ pos OCCUPIED → NoCell a
create_bare t R label t' a (CreateSays.refuses (CreateRefuses.unfit b u e) w) n = bare e
create_bare t R label t' a (CreateSays.refuses (CreateRefuses.rect f m e) w) n = bare e
create_bare t R label t' a (CreateSays.refuses (CreateRefuses.label f r l e) w) n = bare e
create_bare t R label t' a (CreateSays.refuses (CreateRefuses.occupied f r l x y i m e) w) n = absurd (n (met_number e))
create_bare t R label t' a (CreateSays.refuses (CreateRefuses.full f r l m c e) w) n = bare e
create_bare t R label t' a (CreateSays.done k d e) n = bare e

-- every load, also one refused for what is in the way
pub load_bare : (t : List ℤ) (bs : List ℕ) (t' : List ℤ) (a : MetAnswer) → LoadSays t bs t' a → NoCell a
load_bare t bs t' a (LoadSays.size n e w) = bare e
load_bare t bs t' a (LoadSays.file z n e w) = bare e
load_bare t bs t' a (LoadSays.stopped (LoadStops.stops z m n number u o h b r q e) w) = bare e
load_bare t bs t' a (LoadSays.done z n b e) = bare e
