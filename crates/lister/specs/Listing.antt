-- The lister's text, as 01 shows it, and how the lines of a list of tiles are put one after another. Assumes nothing.
use Rattle.std.specs.Prelude.{◌≡◌, refl, ◌≢◌, List, [], ◌∷◌, ◌++◌, map, ℕ, zero, suc, ◌+◌, ◌-◌, ◌*◌, ◌≤◌, ◌<◌, ◌^◌, ℤ, pos, negsuc, length, take, drop, get_or}
use Rattle.std.proofs.Common.{sym, ap, ◌∙◌, subst, append-nil, append_assoc, not-suc-le-zero, le_of_suc-le-suc, arith, take_at, take_all, to_z, of_z}
use Rattle.std.proofs.lemmas.List.{length-map, map_more}
use Rattle.std.proofs.Math.ListN.{get_or-map}
use Rattle.std.specs.Int.{w32}
use Rattle.ruler.specs.Ruler.{ruler, length_of, ruler_pos, count_bits}
use Rattle.geometry.specs.Cases.{eq_cases}
use Rattle.geometry.specs.Picture.{ZERO, LOW, HIGH}
use Rattle.table.specs.Words.{records_of, tile_of}
use Rattle.table.specs.Forms.{Forms}
use Rattle.table.specs.Reading.{Reads}
use Rattle.table.specs.declared.Record.{Record}
use Rattle.seek.specs.Meaning.{Area, Directed}
use Rattle.seek.specs.Once.{times, times_here, times_other, directed_short}
use Rattle.seek.specs.Order.{directed_lists}
use Rattle.layout.specs.Patch.{patch_start, Puts}
use Rattle.lister.specs.Sizes.{LINE}
use Rattle.lister.specs.Text.{line_of, refused_line}
use Rattle.lister.specs.TextLaws.{tile, Adds, adds_none, adds_then, adds_is, adds_start}
use Rattle.lister.specs.declared.text.Text.{Text}
use Rattle.ushanderi.specs.Answers.{DONE, answered, accepted, ruler_area, without_cell}
use Rattle.ushanderi.specs.Promises.{Unfit, Fit, EnumerateSays, LoadSays, listed}
use Rattle.ushanderi.specs.Reading.{fit_forms}
use Rattle.ushanderi.specs.Layouts.{Ends, load_ends}
use Rattle.ushanderi.specs.declared.answer.Answer.{Answer}
use Rattle.ushanderi.specs.declared.answer.MetAnswer.{MetAnswer}

-- ---- what the lister prints

-- the whole plane
abbrev pub whole : Area
whole = record { left = LOW; bottom = LOW; right = HIGH; top = HIGH }

-- one line a tile
unfoldable pub lines_of : List ℤ → List ℕ → List ℕ
lines_of t [] = []
lines_of t (k ∷ ks) = line_of (tile_of t k) ++ lines_of t ks

-- The layout is loaded into the table t. The enumeration of the whole plane is printed; if the load is refused, one line.
pub data Prints (t : List ℤ) (bs text : List ℕ) : Type 0 where
  tiles : (t' : List ℤ) (n : ℕ) (ks : List ℕ) → LoadSays t bs t' (without_cell (accepted n)) → Directed t' whole ks → text ≡ lines_of t' ks → Prints t bs text
  refused : (t' : List ℤ) (number value : ℕ) → LoadSays t bs t' (without_cell (answered number value)) → number ≢ DONE
      → text ≡ refused_line (ZERO + number) (ZERO + value) → Prints t bs text

-- at the start of the lent bytes
pub record Lists (t : List ℤ) (bs out : List ℕ) (r : ℕ) : Type 0 where
  pub within : r ≤ length out
  pub prints : Prints t bs (take r out)

-- ---- a list of record numbers as words

abbrev pub entry : List ℤ → ℕ → ℕ
entry list n = ruler (get_or list n (pos 0)) - ZERO

pub record IsRecord (t list : List ℤ) (n : ℕ) : Type 0 where
  pub from : ZERO ≤ ruler (get_or list n (pos 0))
  pub below : entry list n < records_of t

abbrev pub Records : List ℤ → List ℤ → Type 0
Records t list = (n : ℕ) → n < length list → IsRecord t list n

-- the lines of the tiles that a list names
abbrev pub lines_at : List ℤ → List ℤ → List ℕ
lines_at t list = lines_of t (map length_of list)

records_words : (ks : List ℕ) → map length_of (map pos ks) ≡ ks
unfolding length_of
records_words [] = refl
records_words (k ∷ ks) = ap (λ l. k ∷ l) (records_words ks)

lines_more : (t : List ℤ) (ks : List ℕ) (k : ℕ) → lines_of t (ks ++ (k ∷ [])) ≡ lines_of t ks ++ line_of (tile_of t k)
unfolding lines_of
lines_more t [] k = append-nil (line_of (tile_of t k))
lines_more t (j ∷ ks) k =
    ap (λ l. line_of (tile_of t j) ++ l) (lines_more t ks k) ∙ sym (append_assoc (line_of (tile_of t j)) (lines_of t ks) (line_of (tile_of t k)))

-- record i as it is read
pub tile_read : (t : List ℤ) (i : ℕ) (v : Record) → Reads t i v → tile v ≡ tile_of t i
tile_read t i v h =
    λ j. record { left = h.left j; bottom = h.bottom j; right = h.right j; top = h.top j; paint = record { kind = h.kind j; label = h.label j } }

-- ---- the loop: the lines of the first n entries are put

pub record Putting (t list : List ℤ) (s u : Text) (n : ℕ) : Type 0 where
  pub adds : Adds s (lines_at t (take n list)) u
  pub low : u.at ≤ s.at + LINE * n

pub putting_none : (t list : List ℤ) (s : Text) → s.at ≤ length s.out.now → Putting t list s s 0
unfolding lines_of
putting_none t list s h = record { adds = adds_none s h; low = omega arith }

pub putting_more : (t list : List ℤ) (s u v : Text) (n i : ℕ) (r : Record) → Putting t list s u n → n < length list
    → i ≡ length_of (get_or list n (pos 0))
    → Reads t i r
    → Adds u (line_of (tile r)) v
    → v.at ≤ u.at + LINE
    → Putting t list s v (n + 1)
putting_more t list s u v n i r p h e k q l =
    let next : lines_at t (take n list) ++ line_of (tile r) ≡ lines_at t (take (n + 1) list) =
    ap (λ x. lines_at t (take n list) ++ line_of x) (tile_read t i r k ∙ ap (tile_of t) e)
    ∙ sym (ap (lines_of t) (map_more length_of list n (pos 0) h) ∙ lines_more t (map length_of (take n list)) (length_of (get_or list n (pos 0)))) in
    record { adds = adds_is s v _ _ next (adds_then s u v _ _ p.adds q); low = omega (arith, p.low) }

-- the lines of all entries
pub putting_all : (t list : List ℤ) (s u : Text) (n : ℕ) → Putting t list s u n → length list ≤ n → Adds s (lines_at t list) u
putting_all t list s u n p h = adds_is s u _ _ (ap (lines_at t) (take_all n list h)) p.adds

-- ---- the plane

-- the text of the whole plane is put, and is so long
pub record PutsPlane (t : List ℤ) (out out' : List ℕ) (r : ℕ) : Type 0 where
  pub ks : List ℕ
  pub directed : Directed t whole ks
  pub puts : Puts out out' 0 (lines_of t ks) r
  pub within : r ≤ length out

-- the text of the whole plane is put
pub record AddsPlane (t : List ℤ) (s u : Text) : Type 0 where
  pub ks : List ℕ
  pub directed : Directed t whole ks
  pub adds : Adds s (lines_of t ks) u

-- each entry of the directed order is a record
times_at : (ks : List ℕ) (m : ℕ) → m < length ks → 1 ≤ times (get_or ks m 0) ks
times_at [] m h = absurd (not-suc-le-zero h)
times_at (k ∷ ks) zero h = omega (arith, times_here k k ks refl)
times_at (k ∷ ks) (suc m) h =
    eq_cases k (get_or ks m 0) (λ e. omega (arith, times_here (get_or ks m 0) k ks e))
    (λ d. omega (arith, times_other (get_or ks m 0) k ks d, times_at ks m (le_of_suc-le-suc h)))

directed_below : (t : List ℤ) → Forms t → (ks : List ℕ) → Directed t whole ks → (m : ℕ) → m < length ks → get_or ks m 0 < records_of t
directed_below t f ks d m h = ((directed_lists t f whole (omega arith) ks d (get_or ks m 0)).0 (times_at ks m h)).used.below

-- the n entries at the start of list' are the plane's tiles in directed order
pub record ListsPlane (t list list' : List ℤ) (n : ℕ) : Type 0 where
  pub ks : List ℕ
  pub directed : Directed t whole ks
  pub count : n ≡ length ks
  pub few : length ks ≤ records_of t
  pub is : list' ≡ listed ks list

-- an enumeration of a sound table's plane into a list that has room for every record is not refused
enumerated : (t list list' : List ℤ) (a : Answer) → Fit t → records_of t ≤ length list → EnumerateSays t whole list list' a
    → (n : ℕ) × (a ≡ accepted n) × ListsPlane t list list' n
enumerated t list list' a f h (EnumerateSays.unfit (Unfit.size n e) q) = absurd (n f.size)
enumerated t list list' a f h (EnumerateSays.unfit (Unfit.unsound z n e) q) = absurd (n f.sound)
enumerated t list list' a f h (EnumerateSays.rect g n e q) = absurd (n (omega arith))
enumerated t list list' a f h (EnumerateSays.short g r ks d l e q) = absurd (omega (arith, directed_short t (fit_forms t f) whole ks d))
enumerated t list list' a f h (EnumerateSays.done g r ks d l e q) =
    (length ks, e, record { ks = ks; directed = d; count = refl; few = directed_short t (fit_forms t f) whole ks d; is = q })

-- a word that is a count, read from its bits: its number on the ruler, and as a length
word_of : (n : ℕ) (z : ℤ) → z ≡ pos n → n < 2 ^ 31 → ruler (to_z w32 (of_z w32 z)) ≡ ZERO + n
word_of n z e h = ap ruler (count_bits n z e h) ∙ ruler_pos n ∙ omega arith

count_of : (n : ℕ) (z : ℤ) → z ≡ pos n → n < 2 ^ 31 → length_of (to_z w32 (of_z w32 z)) ≡ n
unfolding length_of
count_of n z e h = ap length_of (count_bits n z e h)

whole_is : ruler_area (negsuc 16777215) (negsuc 16777215) (pos 16777216) (pos 16777216) ≡ whole
unfolding ruler
whole_is = refl

-- its value, read from its bits, is the count, and not below 0
pub lists_plane : (t list list' : List ℤ) (a : Answer) (n : ℕ) → Fit t → records_of t ≤ length list
    → EnumerateSays t (ruler_area (negsuc 16777215) (negsuc 16777215) (pos 16777216) (pos 16777216)) list list' a
    → n ≡ length_of (to_z w32 (of_z w32 a.value)) → (ZERO ≤ ruler (to_z w32 (of_z w32 a.value))) × ListsPlane t list list' n
lists_plane t list list' a n f h s e =
    let (m, is, p) = enumerated t list list' a f h (subst (λ A. EnumerateSays t A list list' a) whole_is s) in
    let q : a.value ≡ pos m = ap (λ a. a.value) is in
    let l : m < 2 ^ 31 = omega (arith, p.count, p.few, f.size.most) in
    (omega (arith, word_of m a.value q l), subst (ListsPlane t list list') (sym (e ∙ count_of m a.value q l)) p)

module _ (t list list' : List ℤ) (n : ℕ) (f : Fit t) (p : ListsPlane t list list' n) where
  first : take n list' ≡ map pos p.ks
  first = ap (take n) p.is ∙ take_at (map pos p.ks) (drop (length p.ks) list) n (length-map p.ks pos ∙ sym p.count)

  pub listed_length : n ≡ length (take n list')
  listed_length = p.count ∙ sym (length-map p.ks pos) ∙ ap length (sym first)

  pub listed_few : n ≤ records_of t
  listed_few = omega (arith, p.count, p.few)

  words : map length_of (take n list') ≡ p.ks
  words = ap (map length_of) first ∙ records_words p.ks

  pub listed_records : Records t (take n list')
  listed_records = subst (Records t) (sym first) each
    where
      each : Records t (map pos p.ks)
      each m l =
          let b : m < length p.ks = omega (arith, length-map p.ks pos) in
          let k : get_or (map pos p.ks) m (pos 0) ≡ pos (get_or p.ks m 0) = get_or-map pos p.ks m 0 in
          let r : ruler (get_or (map pos p.ks) m (pos 0)) ≡ get_or p.ks m 0 + ZERO = ap ruler k ∙ ruler_pos (get_or p.ks m 0) in
          record { from = omega arith; below = omega (arith, directed_below t (fit_forms t f) p.ks p.directed m b) }

  pub puts_plane : (out out' : List ℕ) (r : ℕ) → Puts out out' 0 (lines_at t (take n list')) r → r ≤ length out → PutsPlane t out out' r
  puts_plane out out' r w l =
      record { ks = p.ks; directed = p.directed; puts = subst (λ x. Puts out out' 0 x r) (ap (lines_of t) words) w; within = l }

  pub adds_plane : (s u : Text) → Adds s (lines_at t (take n list')) u → AddsPlane t s u
  adds_plane s u q = record { ks = p.ks; directed = p.directed; adds = adds_is s u _ _ (ap (lines_of t) words) q }

-- ---- the text at the start of the lent bytes

pub text_at : (out out' text : List ℕ) (r : ℕ) → Puts out out' 0 text r → take r out' ≡ text
text_at out out' text r p =
    let e : length text ≡ r = omega (arith, p.next) in
    ap (take r) (p.is ∙ patch_start out text) ∙ take_at text (drop (length text) out) r e

-- ---- the ends of a load

-- the load's number is 0 where it ends well
ends_well : (t t' : List ℤ) (a : MetAnswer) → Ends t t' a → of_z w32 a.number ≡ 0 → (n : ℕ) × (a ≡ without_cell (accepted n)) × Fit t' × (length t' ≡ length t)
ends_well t t' a (Ends.well n e f l) q = (n, e, f, l)
ends_well t t' a (Ends.not number value e p h k) q = absurd (omega (arith, ap (λ a. of_z w32 a.number) e))

pub load_well : (t : List ℤ) (bs : List ℕ) (t' : List ℤ) (a : MetAnswer) → LoadSays t bs t' a → of_z w32 a.number ≡ 0 → Fit t' × (length t' ≡ length t)
load_well t bs t' a s q = let (n, e, f, l) = ends_well t t' a (load_ends t bs t' a s) q in (f, l)

-- the text in the lent bytes, once they are given back
pub lists_tiles : (t : List ℤ) (bs : List ℕ) (t' : List ℤ) (a : MetAnswer) (s u : Text) (out : List ℕ) (r : ℕ) → LoadSays t bs t' a
    → of_z w32 a.number ≡ 0
    → AddsPlane t' s u
    → s.at ≡ 0
    → out ≡ u.out.now
    → r ≡ u.at
    → Lists t bs out r
lists_tiles t bs t' a s u out r q z p e o at =
    let (n, is, f, m) = ends_well t t' a (load_ends t bs t' a q) z in
    record {
      within = omega (arith, ap length o, p.adds.within, p.adds.long);
      prints = Prints.tiles t' n p.ks (subst (LoadSays t bs t') is q) p.directed
          (ap (λ n. take n out) at ∙ ap (take u.at) o ∙ adds_start s u (lines_of t' p.ks) e p.adds);
    }

-- a refusal's number and value as they are printed
pub record Refuses (t : List ℤ) (bs : List ℕ) (t' : List ℤ) (a : MetAnswer) : Type 0 where
  pub number : ℕ
  pub value : ℕ
  pub says : LoadSays t bs t' (without_cell (answered number value))
  pub not_done : number ≢ DONE
  pub first : ruler (to_z w32 (of_z w32 a.number)) ≡ ZERO + number
  pub second : ruler (to_z w32 (of_z w32 a.value)) ≡ ZERO + value

ends_not : (t : List ℤ) (bs : List ℕ) (t' : List ℤ) (a : MetAnswer) → LoadSays t bs t' a → Ends t t' a → (of_z w32 a.number ≡ 0 → ⊥) → Refuses t bs t' a
ends_not t bs t' a s (Ends.well n e f l) q = absurd (q (ap (λ a. of_z w32 a.number) e))
ends_not t bs t' a s (Ends.not number value e p h k) q =
    record {
      number = number;
      value = value;
      says = subst (LoadSays t bs t') e s;
      not_done = λ d. omega arith;
      first = word_of number a.number (ap (λ a. a.number) e) h;
      second = word_of value a.value (ap (λ a. a.value) e) k;
    }

pub load_not : (t : List ℤ) (bs : List ℕ) (t' : List ℤ) (a : MetAnswer) → LoadSays t bs t' a → (of_z w32 a.number ≡ 0 → ⊥) → Refuses t bs t' a
load_not t bs t' a s q = ends_not t bs t' a s (load_ends t bs t' a s) q

pub lists_refused : (t : List ℤ) (bs : List ℕ) (t' : List ℤ) (a : MetAnswer) (s u : Text) (m v : ℕ) (out : List ℕ) (r : ℕ) → (f : Refuses t bs t' a)
    → m ≡ ZERO + f.number → v ≡ ZERO + f.value → Adds s (refused_line m v) u → s.at ≡ 0 → out ≡ u.out.now → r ≡ u.at → Lists t bs out r
lists_refused t bs t' a s u m v out r f e d p z o at =
    record {
      within = omega (arith, ap length o, p.within, p.long);
      prints =
          Prints.refused t' f.number f.value f.says f.not_done
          (ap (λ n. take n out) at ∙ ap (take u.at) o ∙ adds_start s u (refused_line m v) z p ∙ ap (λ m. refused_line m v) e
          ∙ ap (refused_line (ZERO + f.number)) d);
    }
