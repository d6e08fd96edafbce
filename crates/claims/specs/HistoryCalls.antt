-- What the promises of fresh and load say, by the answer's number: a refusal leaves the table, DONE is the one case of that name; and that every answer of
-- a call that writes is a step. Assumes nothing.
use Rattle.std.specs.Prelude.{◌≡◌, ◌≢◌, ◌⊎◌, List, ℕ, ◌/◌, ◌<◌, ◌^◌, ℤ, pos, length}
use Rattle.std.proofs.Common.{sym, ◌∙◌, subst, inl, inr, ⊎_elim, arith}
use Rattle.geometry.specs.Picture.{Tile}
use Rattle.table.specs.Sound.{SizeRight}
use Rattle.table.specs.Fresh.{fresh_table}
use Rattle.seek.specs.Meaning.{Area}
use Rattle.layout.specs.Bytes.{SAVED}
use Rattle.ushanderi.specs.Answers.{DONE, SIZE, FILE}
use Rattle.ushanderi.specs.declared.answer.Answer.{Answer}
use Rattle.ushanderi.specs.declared.answer.MetAnswer.{MetAnswer}
use Rattle.ushanderi.specs.Promises.{Fit, FreshSays, CreateRefuses, CreateSays, DeleteSays, Built, LoadStops, LoadSays}
use Rattle.claims.specs.AgreeChecks.{not_fit, number_is, met_number, number_one, not_done}
use Rattle.claims.specs.AgreeCreate.{refuses_not_done}
use Rattle.claims.specs.History.{Begins, Step}

-- ---- fresh
pub fresh_done : (t t' : List ℤ) (a : Answer) → FreshSays t t' a → a.number ≡ pos DONE → SizeRight t × (t' ≡ fresh_table (length t))
fresh_done t t' a (FreshSays.size n e w) h = absurd (not_done (number_is e) (λ e. omega arith) h)
fresh_done t t' a (FreshSays.done s e w) h = (s, w)

pub fresh_left : (t t' : List ℤ) (a : Answer) → FreshSays t t' a → a.number ≢ pos DONE → t' ≡ t
fresh_left t t' a (FreshSays.size n e w) h = w
fresh_left t t' a (FreshSays.done s e w) h = absurd (h (number_is e))

-- ---- load
pub load_done : (t : List ℤ) (bs : List ℕ) (t' : List ℤ) (a : MetAnswer) → LoadSays t bs t' a → a.number ≡ pos DONE
    → SizeRight t × Built (length t) bs (length bs / SAVED) t'
load_done t bs t' a (LoadSays.size n e w) h = absurd (not_done (met_number e) (λ e. omega arith) h)
load_done t bs t' a (LoadSays.file s n e w) h = absurd (not_done (met_number e) (λ e. omega arith) h)
load_done t bs t' a (LoadSays.stopped (LoadStops.stops s z n c u o l b r d e) w) h = absurd (refuses_not_done r (d ∙ sym (met_number e) ∙ h))
load_done t bs t' a (LoadSays.done s z b e) h = (s, b)

pub load_fresh : (t : List ℤ) (bs : List ℕ) (t' : List ℤ) (a : MetAnswer) → LoadSays t bs t' a → LoadStops t bs a → SizeRight t × (t' ≡ fresh_table (length t))
load_fresh t bs t' a (LoadSays.size n e w) (LoadStops.stops s z m c u o l b r d q) = absurd (n s)
load_fresh t bs t' a (LoadSays.file s n e w) (LoadStops.stops s' z m c u o l b r d q) = absurd (n z)
load_fresh t bs t' a (LoadSays.stopped k w) (LoadStops.stops s z m c u o l b r d q) = (s, w)
load_fresh t bs t' a (LoadSays.done s n k e) (LoadStops.stops s' z m c u o l b r d q) = absurd (refuses_not_done r (d ∙ sym (met_number q) ∙ met_number e))

-- a create on a fit table is refused neither with 1 nor with 11
pub not_unread : (t : List ℤ) (A : Area) (label : ℕ) (a : MetAnswer) → Fit t → CreateRefuses t A label a → (a.number ≡ pos SIZE) ⊎ (a.number ≡ pos FILE) → ⊥
not_unread t A label a f (CreateRefuses.unfit b n e) h = not_fit t b n f
not_unread t A label a f (CreateRefuses.rect g n e) h = ⊎_elim (λ h. omega (arith, number_one (met_number e) h)) (λ h. omega (arith, number_one (met_number e) h)) h
not_unread t A label a f (CreateRefuses.label g r l e) h = ⊎_elim (λ h. omega (arith, number_one (met_number e) h)) (λ h. omega (arith, number_one (met_number e) h)) h
not_unread t A label a f (CreateRefuses.occupied g r l x y i m e) h = ⊎_elim (λ h. omega (arith, number_one (met_number e) h)) (λ h. omega (arith, number_one (met_number e) h)) h
not_unread t A label a f (CreateRefuses.full g r l m n e) h = ⊎_elim (λ h. omega (arith, number_one (met_number e) h)) (λ h. omega (arith, number_one (met_number e) h)) h

-- ---- every answer of a call that writes is a step: no outcome is left out
pub fresh_steps : (t t' : List ℤ) (a : Answer) → FreshSays t t' a → (S : List Tile) → (S' : List Tile) × Step t S t' S'
fresh_steps t t' a c S = go c
  where
    go : FreshSays t t' a → (S' : List Tile) × Step t S t' S'
    go (FreshSays.size n e w) = (_, Step.fresh_refused c (not_done (number_is e) (λ e. omega arith)))
    go (FreshSays.done s e w) = (_, Step.begins (Begins.fresh c (number_is e)))

pub create_steps : (t : List ℤ) (A : Area) (label : ℕ) (t' : List ℤ) (a : MetAnswer) → label < 2 ^ 32 → CreateSays t A label t' a → (S : List Tile)
    → (S' : List Tile) × Step t S t' S'
create_steps t A label t' a b (CreateSays.refuses r w) S = subst (λ t'. (S' : List Tile) × Step t S t' S') (sym w) (_, Step.create_refused r)
create_steps t A label t' a b (CreateSays.done k d e) S = (_, Step.create b d)

pub delete_steps : (t : List ℤ) (x y : ℕ) (t' : List ℤ) (a : Answer) → DeleteSays t x y t' a → (S : List Tile) → (S' : List Tile) × Step t S t' S'
delete_steps t x y t' a (DeleteSays.refuses r w) S = subst (λ t'. (S' : List Tile) × Step t S t' S') (sym w) (_, Step.delete_refused r)
delete_steps t x y t' a (DeleteSays.done i d e) S = (_, Step.delete d)

pub load_steps : (t : List ℤ) (bs : List ℕ) (t' : List ℤ) (a : MetAnswer) → LoadSays t bs t' a → (S : List Tile) → (S' : List Tile) × Step t S t' S'
load_steps t bs t' a c S = go c
  where
    go : LoadSays t bs t' a → (S' : List Tile) × Step t S t' S'
    go (LoadSays.size n e w) = (_, Step.load_unread c (inl (met_number e)))
    go (LoadSays.file s n e w) = (_, Step.load_unread c (inr (met_number e)))
    go (LoadSays.stopped o w) = (_, Step.begins (Begins.load_refused c o))
    go (LoadSays.done s z b e) = (_, Step.begins (Begins.load c (met_number e)))
