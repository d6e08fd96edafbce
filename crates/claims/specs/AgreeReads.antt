-- Two answers that the promise of a call which only reads, or of fresh, allows agree: number, value, returned part and lent memory. Assumes nothing.
use Rattle.std.specs.Prelude.{◌≡◌, List, ℕ, ◌*◌, ◌≤◌, ◌<◌, ℤ, pos, length}
use Rattle.std.proofs.Common.{sym, ap, ap₂, ◌∙◌, subst, subst₂, arith}
use Rattle.geometry.specs.Picture.{InPlane}
use Rattle.table.specs.Sound.{solids_in}
use Rattle.table.specs.View.{Places, Slice, IsPart}
use Rattle.seek.specs.Meaning.{Area, RectRight, FreeArea, First, Directed}
use Rattle.seek.specs.Find.{Finds}
use Rattle.seek.specs.Neighbours.{IsSide, side_of, Neighbours}
use Rattle.seek.specs.Sides.{neighbours_one}
use Rattle.seek.specs.Search.{free_no_first}
use Rattle.seek.specs.Order.{directed_one}
use Rattle.layout.specs.Order.{Saves}
use Rattle.layout.specs.OneOrder.{order_length, saves_agree}
use Rattle.layout.specs.Bytes.{SAVED}
use Rattle.ushanderi.specs.Answers.{DONE, POINT, RECT, SIDE, SHORT, answered, accepted, refused, nothing, with_cell, without_cell}
use Rattle.ushanderi.specs.declared.answer.Answer.{Answer}
use Rattle.ushanderi.specs.declared.answer.MetAnswer.{MetAnswer}
use Rattle.ushanderi.specs.Promises.{Unfit, Fit, FreshSays, CheckSays, ViewSays, FindSays, listed, NeighboursSays, SearchSays, EnumerateSays, SaveSays}
use Rattle.claims.specs.AgreeChecks.{Then, stops, goes, same, join, NotFit, not_fit, unfit_agrees, UnfitMet, unfit_met_agrees, met_one, fit_forms, fit_finds_one, finds_inside}

-- ---- fresh, check, view

pub fresh_agrees : (t u v : List ℤ) (a b : Answer) → FreshSays t u a → FreshSays t v b → (a ≡ b) × (u ≡ v)
fresh_agrees t u v a b (FreshSays.size n e w) (FreshSays.size m d z) = (join e d, join w z)
fresh_agrees t u v a b (FreshSays.size n e w) (FreshSays.done s d z) = absurd (n s)
fresh_agrees t u v a b (FreshSays.done s e w) (FreshSays.size m d z) = absurd (m s)
fresh_agrees t u v a b (FreshSays.done s e w) (FreshSays.done r d z) = (join e d, join w z)

pub check_agrees : (t : List ℤ) (a b : Answer) → CheckSays t a → CheckSays t b → a ≡ b
check_agrees t a b (CheckSays.unfit n) (CheckSays.unfit m) = unfit_agrees t a b n m
check_agrees t a b (CheckSays.unfit n) (CheckSays.done f e) = absurd (not_fit t a n f)
check_agrees t a b (CheckSays.done f e) (CheckSays.unfit m) = absurd (not_fit t b m f)
check_agrees t a b (CheckSays.done f e) (CheckSays.done g d) = join e d

pub places_agree : (t : List ℤ) (index : ℤ) (at len at' len' : ℕ) → Places t index at len → Places t index at' len' → (at ≡ at') × (len ≡ len')
places_agree t index at len at' len' (Places.nowhere n a e) (Places.nowhere m b d) = (join a b, join e d)
places_agree t index at len at' len' (Places.nowhere n a e) (Places.there i h b d) = absurd (n i h)
places_agree t index at len at' len' (Places.there i h a e) (Places.nowhere m b d) = absurd (m i h)
places_agree t index at len at' len' (Places.there i h a e) (Places.there j k b d) =
    let p : pos i ≡ pos j = sym h.is ∙ k.is in
    let q : i ≡ j = cc in
    (omega arith, omega arith)

-- the part that view returns lies where the C name says
pub view_placed : (lent : Slice) (index : ℤ) (part : Slice) (at len : ℕ) → ViewSays lent index part → Places lent.now index at len → IsPart lent at len part
view_placed lent index part at len v w =
    let (e, d) = places_agree lent.now index v.at v.len at len v.place w in
    subst₂ (λ at len. IsPart lent at len part) e d v.is

pub view_agrees : (lent : Slice) (index : ℤ) (p q : Slice) → ViewSays lent index p → ViewSays lent index q → (p.ref_ptr ≡ q.ref_ptr) × (p.now ≡ q.now)
view_agrees lent index p q v w =
    let s = view_placed lent index p w.at w.len v w.place in
    (ap₂ (λ b o. (b, o)) (join s.block w.is.block) (join s.byte w.is.byte), join s.words w.is.words)

-- ---- find

record Found (t : List ℤ) (x y : ℕ) (a : Answer) : Type 0 where
  at : ℕ
  finds : Finds t x y at
  is : a ≡ accepted at

find_order : (t : List ℤ) (x y : ℕ) (a : Answer) → FindSays t x y a
    → Then (NotFit t) (Unfit t a) (Fit t × Then (InPlane x y → ⊥) (a ≡ refused POINT) (Found t x y a))
find_order t x y a (FindSays.unfit n) = stops (not_fit t a n) n
find_order t x y a (FindSays.point f n e) = goes (λ m. m f) (f, stops n e)
find_order t x y a (FindSays.done f i h e) = goes (λ m. m f) (f, goes (λ m. m (finds_inside t f x y i h)) (record { at = i; finds = h; is = e }))

pub find_agrees : (t : List ℤ) (x y : ℕ) (a b : Answer) → FindSays t x y a → FindSays t x y b → a ≡ b
find_agrees t x y a b p q = same
    (unfit_agrees t a b)
    (λ r s. same join (λ h k. h.is ∙ ap accepted (fit_finds_one t r.0 x y h.at k.at h.finds k.finds) ∙ sym k.is) r.1 s.1)
    (find_order t x y a p) (find_order t x y b q)

-- ---- search

record Met (t : List ℤ) (A : Area) (a : MetAnswer) : Type 0 where
  x : ℕ
  y : ℕ
  i : ℕ
  first : First t A x y i
  is : a ≡ with_cell (accepted i) x y

abbrev Searched : List ℤ → Area → MetAnswer → Type 0
Searched t A a =
    Then (NotFit t) (UnfitMet t a)
    (Fit t × Then (RectRight A → ⊥) (a ≡ without_cell (refused RECT)) (Then (FreeArea t A) (a ≡ without_cell nothing) (Met t A a)))

search_order : (t : List ℤ) (A : Area) (a : MetAnswer) → SearchSays t A a → Searched t A a
search_order t A a (SearchSays.unfit b n e) = stops (not_fit t b n) (record { with = b; unfit = n; is = e })
search_order t A a (SearchSays.rect f n e) = goes (λ m. m f) (f, stops n e)
search_order t A a (SearchSays.free f r h e) = goes (λ m. m f) (f, goes (λ m. m r) (stops h e))
search_order t A a (SearchSays.met f r x y i h e) =
    goes (λ m. m f) (f, goes (λ m. m r) (goes (λ g. free_no_first t A x y i g h) (record { x = x; y = y; i = i; first = h; is = e })))

met_agrees : (t : List ℤ) → Fit t → (A : Area) (a b : MetAnswer) → Met t A a → Met t A b → a ≡ b
met_agrees t f A a b h k =
    h.is ∙ met_one t f A DONE h.x h.y h.i k.x k.y k.i h.first k.first ∙ sym k.is

pub search_agrees : (t : List ℤ) (A : Area) (a b : MetAnswer) → SearchSays t A a → SearchSays t A b → a ≡ b
search_agrees t A a b p q = same
    (unfit_met_agrees t a b)
    (λ r s. same join (same join (met_agrees t r.0 A a b)) r.1 s.1)
    (search_order t A a p) (search_order t A b q)

-- ---- lists of records in lent memory

abbrev Alike : List ℤ → List ℤ → Answer → Answer → Type 0
Alike u v a b = (a ≡ b) × (u ≡ v)

-- the list ks, refused for want of entries or written
data Written (ks : List ℕ) (out out' : List ℤ) (a : Answer) : Type 0 where
  short : length out < length ks → a ≡ answered SHORT (length ks) → out' ≡ out → Written ks out out' a
  done : length ks ≤ length out → a ≡ accepted (length ks) → out' ≡ listed ks out → Written ks out out' a

written_agrees : (ks : List ℕ) (out u v : List ℤ) (a b : Answer) → Written ks out u a → Written ks out v b → Alike u v a b
written_agrees ks out u v a b (short h e w) (short k d z) = (join e d, join w z)
written_agrees ks out u v a b (short h e w) (done k d z) = absurd (omega arith)
written_agrees ks out u v a b (done h e w) (short k d z) = absurd (omega arith)
written_agrees ks out u v a b (done h e w) (done k d z) = (join e d, join w z)

refused_agrees : {a b r : Answer} {u v out : List ℤ} → (a ≡ r) × (u ≡ out) → (b ≡ r) × (v ≡ out) → Alike u v a b
refused_agrees p q = (join p.0 q.0, join p.1 q.1)

unfit_same : (t out u v : List ℤ) (a b : Answer) → Unfit t a × (u ≡ out) → Unfit t b × (v ≡ out) → Alike u v a b
unfit_same t out u v a b p q = (unfit_agrees t a b p.0 q.0, join p.1 q.1)

-- ---- neighbours

record Beside (t : List ℤ) (x y : ℕ) (side : ℤ) (out out' : List ℤ) (a : Answer) : Type 0 where
  s : ℕ
  i : ℕ
  ks : List ℕ
  is_side : IsSide side s
  finds : Finds t x y i
  neighbours : Neighbours t (side_of s) i ks
  written : Written ks out out' a

abbrev NoSide : ℤ → Type 0
NoSide side = (s : ℕ) → IsSide side s → ⊥

abbrev Neighboured : List ℤ → ℕ → ℕ → ℤ → List ℤ → List ℤ → Answer → Type 0
Neighboured t x y side out out' a =
    Then (NotFit t) (Unfit t a × (out' ≡ out)) (Fit t × Then (InPlane x y → ⊥) ((a ≡ refused POINT) × (out' ≡ out))
    (Then (NoSide side) ((a ≡ refused SIDE) × (out' ≡ out)) (Beside t x y side out out' a)))

neighbours_order : (t : List ℤ) (x y : ℕ) (side : ℤ) (out out' : List ℤ) (a : Answer) → NeighboursSays t x y side out out' a → Neighboured t x y side out out' a
neighbours_order t x y side out out' a (NeighboursSays.unfit n w) = stops (not_fit t a n) (n, w)
neighbours_order t x y side out out' a (NeighboursSays.point f n e w) = goes (λ m. m f) (f, stops n (e, w))
neighbours_order t x y side out out' a (NeighboursSays.side f p n e w) = goes (λ m. m f) (f, goes (λ m. m p) (stops n (e, w)))
neighbours_order t x y side out out' a (NeighboursSays.short f s i ks c h l o e w) =
    goes (λ m. m f) (
      f,
      goes (λ m. m (finds_inside t f x y i h)) (goes (λ m. m s c)
          (record { s = s; i = i; ks = ks; is_side = c; finds = h; neighbours = l; written = short o e w })),
    )
neighbours_order t x y side out out' a (NeighboursSays.done f s i ks c h l o e w) =
    goes (λ m. m f) (
      f,
      goes (λ m. m (finds_inside t f x y i h)) (goes (λ m. m s c)
          (record { s = s; i = i; ks = ks; is_side = c; finds = h; neighbours = l; written = done o e w })),
    )

side_one : (side : ℤ) (s s' : ℕ) → IsSide side s → IsSide side s' → s ≡ s'
side_one side s s' p q =
    let e : pos s ≡ pos s' = sym p.is ∙ q.is in
    cc

beside_agrees : (t : List ℤ) → Fit t → (x y : ℕ) (side : ℤ) (out u v : List ℤ) (a b : Answer)
    → Beside t x y side out u a → Beside t x y side out v b → Alike u v a b
beside_agrees t f x y side out u v a b p q =
    let e = side_one side q.s p.s q.is_side p.is_side in
    let d = fit_finds_one t f x y q.i p.i q.finds p.finds in
    let l : Neighbours t (side_of p.s) p.i q.ks =
    subst (λ s. Neighbours t (side_of s) p.i q.ks) e (subst (λ i. Neighbours t (side_of q.s) i q.ks) d q.neighbours) in
    let c : q.ks ≡ p.ks = neighbours_one t (fit_forms t f) (side_of p.s) p.i p.finds.used q.ks p.ks l p.neighbours in
    written_agrees p.ks out u v a b p.written (subst (λ ks. Written ks out v b) c q.written)

pub neighbours_agrees : (t : List ℤ) (x y : ℕ) (side : ℤ) (out u v : List ℤ) (a b : Answer)
    → NeighboursSays t x y side out u a → NeighboursSays t x y side out v b → (a ≡ b) × (u ≡ v)
neighbours_agrees t x y side out u v a b p q = same
    (unfit_same t out u v a b)
    (λ r s. same refused_agrees (same refused_agrees (beside_agrees t r.0 x y side out u v a b)) r.1 s.1)
    (neighbours_order t x y side out u a p) (neighbours_order t x y side out v b q)

-- ---- enumerate

record Enumerated (t : List ℤ) (A : Area) (out out' : List ℤ) (a : Answer) : Type 0 where
  ks : List ℕ
  directed : Directed t A ks
  written : Written ks out out' a

abbrev InOrder : List ℤ → Area → List ℤ → List ℤ → Answer → Type 0
InOrder t A out out' a =
    Then (NotFit t) (Unfit t a × (out' ≡ out)) (Fit t × Then (RectRight A → ⊥) ((a ≡ refused RECT) × (out' ≡ out)) (Enumerated t A out out' a))

enumerate_order : (t : List ℤ) (A : Area) (out out' : List ℤ) (a : Answer) → EnumerateSays t A out out' a → InOrder t A out out' a
enumerate_order t A out out' a (EnumerateSays.unfit n w) = stops (not_fit t a n) (n, w)
enumerate_order t A out out' a (EnumerateSays.rect f n e w) = goes (λ m. m f) (f, stops n (e, w))
enumerate_order t A out out' a (EnumerateSays.short f r ks d o e w) =
    goes (λ m. m f) (f, goes (λ m. m r) (record { ks = ks; directed = d; written = short o e w }))
enumerate_order t A out out' a (EnumerateSays.done f r ks d o e w) =
    goes (λ m. m f) (f, goes (λ m. m r) (record { ks = ks; directed = d; written = done o e w }))

enumerated_agrees : (t : List ℤ) → Fit t → (A : Area) (out u v : List ℤ) (a b : Answer)
    → Enumerated t A out u a → Enumerated t A out v b → Alike u v a b
enumerated_agrees t f A out u v a b p q =
    let c : q.ks ≡ p.ks = directed_one t (fit_forms t f) A q.ks p.ks q.directed p.directed in
    written_agrees p.ks out u v a b p.written (subst (λ ks. Written ks out v b) c q.written)

pub enumerate_agrees : (t : List ℤ) (A : Area) (out u v : List ℤ) (a b : Answer)
    → EnumerateSays t A out u a → EnumerateSays t A out v b → (a ≡ b) × (u ≡ v)
enumerate_agrees t A out u v a b p q = same
    (unfit_same t out u v a b)
    (λ r s. same refused_agrees (enumerated_agrees t r.0 A out u v a b) r.1 s.1)
    (enumerate_order t A out u a p) (enumerate_order t A out v b q)

-- ---- save

record Put (t : List ℤ) (out out' : List ℕ) (a : Answer) : Type 0 where
  bytes : ℕ
  saves : Saves t out out' bytes
  is : a ≡ accepted bytes

abbrev SavedOr : List ℤ → List ℕ → List ℕ → Answer → Type 0
SavedOr t out out' a =
    Then (NotFit t) (Unfit t a × (out' ≡ out))
    (Then (length out < SAVED * solids_in t) ((a ≡ answered SHORT (SAVED * solids_in t)) × (out' ≡ out)) (Put t out out' a))

save_order : (t : List ℤ) (out out' : List ℕ) (a : Answer) → SaveSays t out out' a → SavedOr t out out' a
save_order t out out' a (SaveSays.unfit n w) = stops (not_fit t a n) (n, w)
save_order t out out' a (SaveSays.short f ks l o e w) =
    let c = order_length t ks l in
    goes (λ m. m f) (stops (omega arith) (e ∙ ap (λ n. answered SHORT (SAVED * n)) c, w))
save_order t out out' a (SaveSays.done f n s o e) =
    let c = order_length t s.solids s.lists in
    goes (λ m. m f) (goes (λ h. omega (arith, s.number)) (record { bytes = n; saves = s; is = e }))

pub save_agrees : (t : List ℤ) (out u v : List ℕ) (a b : Answer) → SaveSays t out u a → SaveSays t out v b → (a ≡ b) × (u ≡ v)
save_agrees t out u v a b p q = same
    (λ r s. (unfit_agrees t a b r.0 s.0, join r.1 s.1))
    (same (λ r s. (join r.0 s.0, join r.1 s.1))
    (λ h k. let (w, e) = saves_agree t out u v h.bytes k.bytes h.saves k.saves in (h.is ∙ ap accepted e ∙ sym k.is, w)))
    (save_order t out u a p) (save_order t out v b q)
