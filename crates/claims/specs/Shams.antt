-- Sham programs that the promises shut out: what each of them would answer, or leave in the table, is allowed by no promise. Assumes nothing.
use Rattle.std.specs.Prelude.{◌≡◌, refl, ◌≢◌, List, ℕ, ◌*◌, ◌/◌, ◌%◌, ◌≤◌, ◌<◌, ℤ, pos, negsuc, Float, length}
use Rattle.std.proofs.Common.{sym, ap, ◌∙◌, subst, arith}
use mathlib.Core.List.Memᴰ
use Rattle.ruler.specs.Ruler.{ruler}
use Rattle.geometry.specs.Cases.{lt_cases}
use Rattle.geometry.specs.Picture.{InPlane, Tile, Has}
use Rattle.geometry.specs.Tiling.{one_holder}
use Rattle.table.specs.Words.{WIDTH, records_of, tile_of}
use Rattle.table.specs.Sound.{SizeRight, capacity, solids_in, SolidIn}
use Rattle.table.specs.View.{Places, Slice, IsPart}
use Rattle.table.specs.Fresh.{fresh_table}
use Rattle.seek.specs.Meaning.{Area, InArea, RectRight, FreeArea, Directed}
use Rattle.seek.specs.Find.{Finds}
use Rattle.seek.specs.Neighbours.{side_of, Neighbours}
use Rattle.density.specs.Meaning.{Steps, windows_of}
use Rattle.layout.specs.Bytes.{SAVED}
use Rattle.ushanderi.specs.Answers.{DONE, SHORT, answered, accepted, nothing, without_cell}
use Rattle.ushanderi.specs.declared.answer.Answer.{Answer}
use Rattle.ushanderi.specs.declared.answer.MetAnswer.{MetAnswer}
use Rattle.ushanderi.specs.declared.reports.DensityAnswer.{DensityAnswer}
use Rattle.ushanderi.specs.Promises.{Unfit, Fit, FreshSays, CheckSays, ViewSays, FindSays, listed, NeighboursSays, SearchSays, EnumerateSays, DensitySays, CreateAllows, CreateSays, DeleteSays, SaveSays, LoadSays}
use Rattle.claims.specs.AgreeChecks.{fit_forms, not_fit, number_is, met_number}
use Rattle.claims.specs.AgreeReads.{view_placed, enumerate_agrees}
use Rattle.claims.specs.AgreeCreate.{create_done}
use Rattle.claims.specs.AgreeDelete.{delete_done}
use Rattle.claims.specs.History.{Among, filed}
use Rattle.claims.specs.HistoryKept.{built_kept}
use Rattle.claims.specs.Draws.{fresh_draws}
use Rattle.claims.specs.Allowed.{never_refused, find_is, search_free}
use Rattle.claims.specs.Examples.{ABC}
use Rattle.claims.specs.ExamplesHold.{second_done, after_A}
use Rattle.claims.specs.Terms.{Shows, Created, Clean}
use Rattle.claims.specs.Drawing.{area, A, B, C, Draws, area_of}

-- any number but DONE
abbrev pub Refuses : ℤ → Type 0
Refuses number = number ≢ pos DONE

pub accepts : (a : Answer) (value : ℕ) → a ≡ accepted value → Refuses a.number → ⊥
accepts a value e n = n (number_is e)

-- ---- one that always refuses: where no check of 01 or 02 stops the call, no refusal is allowed
pub record NoRefusal : Type 0 where
  pub fresh : (t t' : List ℤ) (a : Answer) → SizeRight t → FreshSays t t' a → Refuses a.number → ⊥
  pub check : (t : List ℤ) (a : Answer) → Fit t → CheckSays t a → Refuses a.number → ⊥
  pub find : (t : List ℤ) (x y : ℕ) (a : Answer) → Fit t → InPlane x y → FindSays t x y a → Refuses a.number → ⊥
  -- the lent list is not shorter than needed
  pub neighbours : (t : List ℤ) (x y s : ℕ) (out out' : List ℤ) (a : Answer) → Fit t → InPlane x y → s < 4
      → ((i : ℕ) (ks : List ℕ) → Finds t x y i → Neighbours t (side_of s) i ks → length ks ≤ length out)
      → NeighboursSays t x y (pos s) out out' a → Refuses a.number → ⊥
  pub search : (t : List ℤ) (R : Area) (a : MetAnswer) → Fit t → RectRight R → SearchSays t R a → Refuses a.number → ⊥
  pub enumerate : (t : List ℤ) (R : Area) (out out' : List ℤ) (a : Answer) → Fit t → RectRight R
      → ((ks : List ℕ) → Directed t R ks → length ks ≤ length out) → EnumerateSays t R out out' a → Refuses a.number → ⊥
  pub density : (t : List ℤ) (R : Area) (w h : ℕ) (out out' : List Float) (a : DensityAnswer) → Fit t → RectRight R → Steps R w h
      → windows_of R w h ≤ length out → DensitySays t R w h out out' a → Refuses a.number → ⊥
  pub create : (t : List ℤ) (R : Area) (label : ℕ) (t' : List ℤ) (a : MetAnswer) → CreateAllows t R label → CreateSays t R label t' a → Refuses a.number → ⊥
  pub delete : (t : List ℤ) (x y i : ℕ) (t' : List ℤ) (a : Answer) → Fit t → Finds t x y i → SolidIn t i → DeleteSays t x y t' a → Refuses a.number → ⊥
  pub save : (t : List ℤ) (out out' : List ℕ) (a : Answer) → Fit t → SAVED * solids_in t ≤ length out → SaveSays t out out' a → Refuses a.number → ⊥
  pub load : (t t' : List ℤ) (bs : List ℕ) (a : MetAnswer) → SizeRight t → Clean bs (capacity (records_of t)) → LoadSays t bs t' a → Refuses a.number → ⊥

pub no_refused_fresh : (t t' : List ℤ) (a : Answer) → SizeRight t → FreshSays t t' a → Refuses a.number → ⊥
no_refused_fresh t t' a s (FreshSays.size n e w) r = n s
no_refused_fresh t t' a s (FreshSays.done z e w) r = accepts a 0 e r

pub no_refused_find : (t : List ℤ) (x y : ℕ) (a : Answer) → Fit t → InPlane x y → FindSays t x y a → Refuses a.number → ⊥
no_refused_find t x y a f p s r =
    let h = one_holder (records_of t) (tile_of t) (fit_forms t f).widest x y p in
    accepts a h.number (find_is t f x y h.number a (record { used = h.used; has = h.has }) s) r

pub no_refused_neighbours : (t : List ℤ) (x y s : ℕ) (out out' : List ℤ) (a : Answer) → Fit t → InPlane x y → s < 4
    → ((i : ℕ) (ks : List ℕ) → Finds t x y i → Neighbours t (side_of s) i ks → length ks ≤ length out)
    → NeighboursSays t x y (pos s) out out' a → Refuses a.number → ⊥
no_refused_neighbours t x y s out out' a f p b l (NeighboursSays.unfit u w) r = not_fit t a u f
no_refused_neighbours t x y s out out' a f p b l (NeighboursSays.point g n e w) r = n p
no_refused_neighbours t x y s out out' a f p b l (NeighboursSays.side g q n e w) r = n s (record { is = refl; below = b })
no_refused_neighbours t x y s out out' a f p b l (NeighboursSays.short g c i ks d h m o e w) r =
    let z : pos c ≡ pos s = sym d.is in
    let q : c ≡ s = cc in
    omega (arith, l i ks h (subst (λ s. Neighbours t (side_of s) i ks) q m))
no_refused_neighbours t x y s out out' a f p b l (NeighboursSays.done g c i ks d h m o e w) r = accepts a (length ks) e r

pub no_refused_search : (t : List ℤ) (R : Area) (a : MetAnswer) → Fit t → RectRight R → SearchSays t R a → Refuses a.number → ⊥
no_refused_search t R a f q (SearchSays.unfit b u e) r = not_fit t b u f
no_refused_search t R a f q (SearchSays.rect g n e) r = n q
no_refused_search t R a f q (SearchSays.free g p h e) r = r (met_number e)
no_refused_search t R a f q (SearchSays.met g p x y i h e) r = r (met_number e)

pub no_refused_enumerate : (t : List ℤ) (R : Area) (out out' : List ℤ) (a : Answer) → Fit t → RectRight R
    → ((ks : List ℕ) → Directed t R ks → length ks ≤ length out) → EnumerateSays t R out out' a → Refuses a.number → ⊥
no_refused_enumerate t R out out' a f q l (EnumerateSays.unfit u w) r = not_fit t a u f
no_refused_enumerate t R out out' a f q l (EnumerateSays.rect g n e w) r = n q
no_refused_enumerate t R out out' a f q l (EnumerateSays.short g p ks d h e w) r = omega (arith, l ks d)
no_refused_enumerate t R out out' a f q l (EnumerateSays.done g p ks d h e w) r = accepts a (length ks) e r

pub no_refused_density : (t : List ℤ) (R : Area) (w h : ℕ) (out out' : List Float) (a : DensityAnswer) → Fit t → RectRight R → Steps R w h
    → windows_of R w h ≤ length out → DensitySays t R w h out out' a → Refuses a.number → ⊥
no_refused_density t R w h out out' a f q p l (DensitySays.unfit b u e z) r = not_fit t b u f
no_refused_density t R w h out out' a f q p l (DensitySays.rect g n e z) r = n q
no_refused_density t R w h out out' a f q p l (DensitySays.step g o n e z) r = n p
no_refused_density t R w h out out' a f q p l (DensitySays.short g o s k e z) r = omega arith
no_refused_density t R w h out out' a f q p l (DensitySays.done g o s k b m e) r = r (ap (λ a. a.number) e)

pub no_refused_create : (t : List ℤ) (R : Area) (label : ℕ) (t' : List ℤ) (a : MetAnswer) → CreateAllows t R label → CreateSays t R label t' a → Refuses a.number → ⊥
no_refused_create t R label t' a g (CreateSays.refuses o w) r = never_refused g o
no_refused_create t R label t' a g (CreateSays.done k d e) r = r (met_number e)

-- as with A, B and C at (9, 9)
pub no_refusal_abc : (t : List ℤ) → Draws t ABC → (a : Answer) → FindSays t (ruler (pos 9)) (ruler (pos 9)) a → Refuses a.number → ⊥
unfolding ruler
no_refusal_abc t d a s r = no_refused_find t (ruler (pos 9)) (ruler (pos 9)) a d.fit (omega arith) s r

-- ---- one that always answers "free"
-- no count or record is -1
pub negative : (value : ℕ) → negsuc 0 ≡ pos value → ⊥
negative value e = let o : ◌≡◌ {A = ℕ} 0 1 = cc in omega arith

-- where a solid holds a cell of the rectangle, the answer is not "free"
pub not_free : (t : List ℤ) (R : Area) (x y i : ℕ) → InArea R x y → SolidIn t i → Has (tile_of t i) x y → (a : MetAnswer) → SearchSays t R a
    → a.value ≡ negsuc 0 → ⊥
not_free t R x y i h s p a (SearchSays.unfit b (Unfit.size n d) e) v = negative 0 (sym v ∙ ap (λ a. a.value) e ∙ ap (λ a. a.value) d)
not_free t R x y i h s p a (SearchSays.unfit b (Unfit.unsound z n d) e) v = negative 0 (sym v ∙ ap (λ a. a.value) e ∙ ap (λ a. a.value) d)
not_free t R x y i h s p a (SearchSays.rect g n e) v = negative 0 (sym v ∙ ap (λ a. a.value) e)
not_free t R x y i h s p a (SearchSays.free g q o e) v = o x y h i s p
not_free t R x y i h s p a (SearchSays.met g q x' y' j o e) v = negative j (sym v ∙ ap (λ a. a.value) e)

-- as with A, B and C in 5 0 25 20, where C stands
pub not_free_abc : (t : List ℤ) → Draws t ABC → (a : MetAnswer) → SearchSays t (area (pos 5) (pos 0) (pos 25) (pos 20)) a → a.value ≡ negsuc 0 → ⊥
unfolding ruler
not_free_abc t d =
    let s = d.all C (Memᴰ.tail (Memᴰ.tail (Memᴰ.head refl))) in
    let h : Has C (ruler (pos 5)) (ruler (pos 15)) = omega arith in
    not_free t (area (pos 5) (pos 0) (pos 25) (pos 20)) (ruler (pos 5)) (ruler (pos 15)) s.at (omega arith) s.solid
    (subst (λ v. Has v (ruler (pos 5)) (ruler (pos 15))) (sym s.is) h)

-- and where no solid does, it is nothing else: so one that never answers "free" is shut out too
pub but_free : (t : List ℤ) (R : Area) (a : MetAnswer) → Fit t → RectRight R → FreeArea t R → SearchSays t R a → a ≢ without_cell nothing → ⊥
but_free t R a f r h s n = n (search_free t f R a r h s)

-- ---- one whose create, delete, fresh or load writes nothing
pub fresh_shows : (t : List ℤ) → SizeRight t → (v : Tile) → Shows (fresh_table (length t)) v → ⊥
fresh_shows t z v s = Memᴰ.not-nil ((fresh_draws t z).each s.at s.solid)

pub create_writes : (t : List ℤ) (R : Area) (label : ℕ) (t' : List ℤ) (a : MetAnswer) → CreateSays t R label t' a → a.number ≡ pos DONE → t' ≡ t → ⊥
create_writes t R label t' a c e w =
    let d = create_done c e in
    d.done.adds.was_none (subst (λ t. SolidIn t d.at) w d.done.adds.new)

pub delete_writes : (t : List ℤ) (x y : ℕ) (t' : List ℤ) (a : Answer) → DeleteSays t x y t' a → a.number ≡ pos DONE → t' ≡ t → ⊥
delete_writes t x y t' a c e w =
    let d = delete_done c e in
    (d.done.removes.only d.at (subst (λ t. SolidIn t d.at) (sym w) d.done.allows.solid)).1 refl

-- fresh, where the table has a solid
pub fresh_writes : (t t' : List ℤ) (v : Tile) (a : Answer) → SizeRight t → Shows t v → FreshSays t t' a → t' ≡ t → ⊥
fresh_writes t t' v a z s (FreshSays.size n e w) q = n z
fresh_writes t t' v a z s (FreshSays.done y e w) q = fresh_shows t z v (subst (λ t. Shows t v) (sym q ∙ w) s)

-- load of whole records, where the table has a solid that the file has not
pub load_writes : (t t' : List ℤ) (bs : List ℕ) (v : Tile) (a : MetAnswer) → SizeRight t → length bs % SAVED ≡ 0 → Shows t v
    → (Among (filed bs (length bs / SAVED)) v → ⊥) → LoadSays t bs t' a → t' ≡ t → ⊥
load_writes t t' bs v a z d s m (LoadSays.size n e w) q = n z
load_writes t t' bs v a z d s m (LoadSays.file y n e w) q = n d
load_writes t t' bs v a z d s m (LoadSays.stopped c w) q = fresh_shows t z v (subst (λ t. Shows t v) (sym q ∙ w) s)
load_writes t t' bs v a z d s m (LoadSays.done y r b e) q =
    m (((built_kept t z bs (length bs / SAVED) t' b).solids v).1 (subst (λ t. Shows t v) (sym q) s))

-- ---- one whose second and later calls write nothing
created_writes : (t : List ℤ) (R : Area) (label : ℕ) (t' : List ℤ) (a : MetAnswer) → CreateSays t R label t' a → Created t R label t' a → t' ≡ t → ⊥
created_writes t R label t' a s c w = create_writes t R label t' a s (met_number c.is) w

-- A and then B on a fresh plane that takes both: whatever the second call answers, it has written
pub second_writes : (t t₀ t₁ t₂ : List ℤ) (a₀ : Answer) (a₁ a₂ : MetAnswer) → SizeRight t → 2 ≤ capacity (records_of t) → FreshSays t t₀ a₀
    → CreateSays t₀ (area_of A) A.paint.label t₁ a₁ → CreateSays t₁ (area_of B) B.paint.label t₂ a₂ → t₂ ≡ t₁ → ⊥
second_writes t t₀ t₁ t₂ a₀ a₁ a₂ z n f s₁ s₂ w =
    let o = after_A t t₀ t₁ a₀ a₁ z f s₁ in
    let r = o.records in
    created_writes t₁ (area_of B) B.paint.label t₂ a₂ s₂ (second_done t₁ o.draws (omega arith) t₂ a₂ s₂) w

-- A and then fresh once more
pub second_fresh_writes : (t t₀ t₁ t₂ : List ℤ) (a₀ a₂ : Answer) (a₁ : MetAnswer) → SizeRight t → FreshSays t t₀ a₀
    → CreateSays t₀ (area_of A) A.paint.label t₁ a₁ → FreshSays t₁ t₂ a₂ → t₂ ≡ t₁ → ⊥
second_fresh_writes t t₀ t₁ t₂ a₀ a₂ a₁ z f s₁ s₂ w =
    let d = (after_A t t₀ t₁ a₀ a₁ z f s₁).draws in
    fresh_writes t₁ t₂ A a₂ d.fit.size (d.all A (Memᴰ.head refl)) s₂ w

-- ---- one that invents the enumeration count
module _ (t : List ℤ) (R : Area) (f : Fit t) (r : RectRight R) (ks : List ℕ) (d : Directed t R ks) (out out' : List ℤ) where
  -- the count is that of the directed order, for a list that is long enough and for one that is too short
  pub count_fixed : (number count : ℕ) → EnumerateSays t R out out' (answered number count) → count ≡ length ks
  count_fixed number count s =
      lt_cases (length out) (length ks)
      (λ h. one_value (enumerate_agrees t R out out' out (answered number count) (answered SHORT (length ks)) s (EnumerateSays.short f r ks d h refl refl)).0)
      (λ h. one_value (enumerate_agrees t R out out' (listed ks out) (answered number count) (accepted (length ks)) s (EnumerateSays.done f r ks d h refl refl)).0)
    where
      one_value : {m n k : ℕ} → answered number m ≡ answered n k → m ≡ k
      one_value {m} {n} {k} e = let z : pos m ≡ pos k = ap (λ a. a.value) e in cc

  pub not_invented : (number count : ℕ) → count ≢ length ks → EnumerateSays t R out out' (answered number count) → ⊥
  not_invented number count n s = n (count_fixed number count s)

-- ---- one whose view gives the part of another record, which may hold the same words
pub own_part : (lent part : Slice) (i j : ℕ) → SizeRight lent.now → i < records_of lent.now → ViewSays lent (pos i) part
    → IsPart lent (WIDTH * j) WIDTH part → i ≢ j → ⊥
own_part lent part i j s h v p n =
    let q = view_placed lent (pos i) part (WIDTH * i) WIDTH v (Places.there i (record { size = s; below = h; is = refl }) refl refl) in
    n (omega (arith, p.byte, q.byte))
