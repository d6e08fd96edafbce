-- What an allowed answer has to be on a fit table of which the facts are known. Assumes nothing.
use Rattle.std.specs.Prelude.{◌≡◌, refl, List, ℕ, ◌*◌, ◌≤◌, ◌<◌, ℤ, pos, length}
use Rattle.std.proofs.Common.{ap, ◌∙◌, subst, arith}
use Rattle.geometry.specs.Picture.{ZERO, InPlane}
use Rattle.table.specs.Words.{KIND, records_of, num}
use Rattle.table.specs.Sound.{capacity, solids_in, SolidIn, SpaceIn}
use Rattle.seek.specs.Meaning.{Area, RectRight, FreeArea, First, Directed}
use Rattle.seek.specs.Find.{Finds}
use Rattle.seek.specs.Neighbours.{side_of, Neighbours}
use Rattle.seek.specs.Search.{free_no_first}
use Rattle.layout.specs.Order.{Saves}
use Rattle.layout.specs.OneOrder.{order_length, saves_bytes}
use Rattle.layout.specs.Bytes.{SAVED}
use Rattle.ushanderi.specs.Answers.{OCCUPIED, FULL, POINT, SPACE, answered, accepted, refused, nothing, with_cell, without_cell}
use Rattle.ushanderi.specs.declared.answer.Answer.{Answer}
use Rattle.ushanderi.specs.declared.answer.MetAnswer.{MetAnswer}
use Rattle.ushanderi.specs.Edits.{label_in}
use Rattle.ushanderi.specs.Promises.{Fit, FindSays, listed, NeighboursSays, SearchSays, EnumerateSays, CreateRefuses, CreateAllows, CreateSays, DeleteRefuses, DeleteDone, DeleteSays, SaveSays}
use Rattle.claims.specs.AgreeChecks.{not_fit, met_one, fit_finds_one, finds_inside}
use Rattle.claims.specs.AgreeReads.{find_agrees, neighbours_agrees, search_agrees, enumerate_agrees}
use Rattle.claims.specs.HistoryExact.{never_room}
use Rattle.claims.specs.Terms.{Created}

-- what an accepted save says
pub record Saved (t : List ℤ) (out out' : List ℕ) (a : Answer) : Type 0 where
  pub is : a ≡ accepted (SAVED * solids_in t)
  pub saves : Saves t out out' (SAVED * solids_in t)

-- no create is refused where none of its checks holds
pub never_refused : {t : List ℤ} {A : Area} {label : ℕ} {a : MetAnswer} → CreateAllows t A label → CreateRefuses t A label a → ⊥
never_refused {t} g (CreateRefuses.unfit b u e) = not_fit t b u g.fit
never_refused g (CreateRefuses.rect f m e) = m g.rect
never_refused g (CreateRefuses.label f s m e) = omega (arith, g.named)
never_refused {t} {A} g (CreateRefuses.occupied f s m x y i p e) = free_no_first t A x y i g.free p
never_refused g (CreateRefuses.full f s m o c e) = omega (arith, g.few)

module _ (t : List ℤ) (f : Fit t) where
  -- ---- reading

  pub find_is : (x y i : ℕ) (a : Answer) → Finds t x y i → FindSays t x y a → a ≡ accepted i
  find_is x y i a h s = find_agrees t x y a (accepted i) s (FindSays.done f i h refl)

  pub find_point : (x y : ℕ) (a : Answer) → (InPlane x y → ⊥) → FindSays t x y a → a ≡ refused POINT
  find_point x y a n s = find_agrees t x y a (refused POINT) s (FindSays.point f n refl)

  pub search_free : (A : Area) (a : MetAnswer) → RectRight A → FreeArea t A → SearchSays t A a → a ≡ without_cell nothing
  search_free A a r h s = search_agrees t A a (without_cell nothing) s (SearchSays.free f r h refl)

  pub search_met : (A : Area) (x y i : ℕ) (a : MetAnswer) → RectRight A → First t A x y i → SearchSays t A a → a ≡ with_cell (accepted i) x y
  search_met A x y i a r h s = search_agrees t A a (with_cell (accepted i) x y) s (SearchSays.met f r x y i h refl)

  pub neighbours_are : (x y i s : ℕ) (ks : List ℕ) (out out' : List ℤ) (a : Answer) → s < 4 → Finds t x y i → Neighbours t (side_of s) i ks
      → length ks ≤ length out → NeighboursSays t x y (pos s) out out' a → (a ≡ accepted (length ks)) × (out' ≡ listed ks out)
  neighbours_are x y i s ks out out' a b h n l p =
      neighbours_agrees t x y (pos s) out out' (listed ks out) a (accepted (length ks)) p
      (NeighboursSays.done f s i ks (record { is = refl; below = b }) h n l refl refl)

  pub enumerated_are : (A : Area) (ks : List ℕ) (out out' : List ℤ) (a : Answer) → RectRight A → Directed t A ks → length ks ≤ length out
      → EnumerateSays t A out out' a → (a ≡ accepted (length ks)) × (out' ≡ listed ks out)
  enumerated_are A ks out out' a r d l p =
      enumerate_agrees t A out out' (listed ks out) a (accepted (length ks)) p (EnumerateSays.done f r ks d l refl refl)

  -- ---- create

  module _ (A : Area) (label : ℕ) (r : RectRight A) (l : ZERO < label) (t' : List ℤ) (a : MetAnswer) where
    pub creates : FreeArea t A → solids_in t < capacity (records_of t) → CreateSays t A label t' a → Created t A label t' a
    creates h n (CreateSays.refuses o w) = absurd (never_refused (record { fit = f; rect = r; named = l; free = h; few = n }) o)
    creates h n (CreateSays.done k d e) = record { at = k; done = d; is = e }

    pub is_full : FreeArea t A → solids_in t ≡ capacity (records_of t) → CreateSays t A label t' a → (a ≡ without_cell (refused FULL)) × (t' ≡ t)
    is_full h n (CreateSays.refuses (CreateRefuses.unfit b u e) q) = absurd (not_fit t b u f)
    is_full h n (CreateSays.refuses (CreateRefuses.rect g m e) q) = absurd (m r)
    is_full h n (CreateSays.refuses (CreateRefuses.label g s m e) q) = absurd (omega arith)
    is_full h n (CreateSays.refuses (CreateRefuses.occupied g s m x y i p e) q) = absurd (free_no_first t A x y i h p)
    is_full h n (CreateSays.refuses (CreateRefuses.full g s m o c e) q) = (e, q)
    is_full h n (CreateSays.done k d e) = absurd (omega (arith, d.allows.few))

    pub is_occupied : (x y i : ℕ) → First t A x y i → CreateSays t A label t' a → (a ≡ with_cell (answered OCCUPIED i) x y) × (t' ≡ t)
    is_occupied x y i h (CreateSays.refuses (CreateRefuses.unfit b u e) q) = absurd (not_fit t b u f)
    is_occupied x y i h (CreateSays.refuses (CreateRefuses.rect g m e) q) = absurd (m r)
    is_occupied x y i h (CreateSays.refuses (CreateRefuses.label g s m e) q) = absurd (omega arith)
    is_occupied x y i h (CreateSays.refuses (CreateRefuses.occupied g s m x' y' i' p e) q) =
        (e ∙ met_one t f A OCCUPIED x' y' i' x y i p h, q)
    is_occupied x y i h (CreateSays.refuses (CreateRefuses.full g s m o c e) q) = absurd (free_no_first t A x y i o h)
    is_occupied x y i h (CreateSays.done k d e) = absurd (free_no_first t A x y i d.allows.free h)

  -- ---- delete

  module _ (x y i : ℕ) (h : Finds t x y i) (t' : List ℤ) (a : Answer) where
    one_kind : (i j : ℕ) → i ≡ j → SolidIn t i → SpaceIn t j → ⊥
    one_kind i j e s k = omega (arith, s.kind, ap (λ j. num t j KIND) e)

    pub deletes : SolidIn t i → DeleteSays t x y t' a → (a ≡ accepted (label_in t i)) × DeleteDone t x y t' i
    deletes s (DeleteSays.refuses (DeleteRefuses.unfit u) e) = absurd (not_fit t a u f)
    deletes s (DeleteSays.refuses (DeleteRefuses.point g n e) q) = absurd (n (finds_inside t f x y i h))
    deletes s (DeleteSays.refuses (DeleteRefuses.space g j k c e) q) = absurd (one_kind i j (fit_finds_one t f x y i j h k) s c)
    deletes s (DeleteSays.refuses (DeleteRefuses.room g j k c n e) q) = absurd (never_room t f n)
    deletes s (DeleteSays.done j d e) =
        let q = fit_finds_one t f x y j i d.allows.finds h in
        (e ∙ ap (λ j. accepted (label_in t j)) q, subst (DeleteDone t x y t') q d)

    pub is_space : SpaceIn t i → DeleteSays t x y t' a → (a ≡ refused SPACE) × (t' ≡ t)
    is_space s (DeleteSays.refuses (DeleteRefuses.unfit u) e) = absurd (not_fit t a u f)
    is_space s (DeleteSays.refuses (DeleteRefuses.point g n e) q) = absurd (n (finds_inside t f x y i h))
    is_space s (DeleteSays.refuses (DeleteRefuses.space g j k c e) q) = (e, q)
    is_space s (DeleteSays.refuses (DeleteRefuses.room g j k c n e) q) = absurd (one_kind j i (fit_finds_one t f x y j i k h) c s)
    is_space s (DeleteSays.done j d e) = absurd (one_kind j i (fit_finds_one t f x y j i d.allows.finds h) d.allows.solid s)

  -- ---- save

  pub saves : (out out' : List ℕ) (a : Answer) → SAVED * solids_in t ≤ length out → SaveSays t out out' a → Saved t out out' a
  saves out out' a l (SaveSays.unfit u e) = absurd (not_fit t a u f)
  saves out out' a l (SaveSays.short g ks s h e w) = absurd (omega (arith, order_length t ks s))
  saves out out' a l (SaveSays.done g n s h e) =
      let q = saves_bytes t out out' n s in
      record { is = e ∙ ap accepted q; saves = subst (Saves t out out') q s }
