-- Laws of the lister's text: digits one by one, how long lines are, and what writing them piece by piece leaves. Assumes nothing.
use Rattle.std.specs.Prelude.{◌≡◌, refl, cond, List, [], ◌∷◌, ◌++◌, ℕ, zero, suc, ℤ, ◌+◌, ◌-◌, ◌*◌, ◌/◌, ◌%◌, ◌^◌, ◌≤◌, ◌<◌, length, take, drop, get_or, false}
use Rattle.std.specs.Int.{w32}
use Rattle.std.specs.List.{flat_map}
use Rattle.std.specs.Fmt.{digits, signed_decimal}
use Rattle.std.proofs.Common.{sym, ap, ◌∙◌, subst, append_assoc, not-suc-le-zero, pow-suc, arith, length-append, lt-ltb, le-ltb, eq-eqb, ne_eqb, take_all, take_at, to_z, of_z, to_z-of_z}
use Rattle.std.proofs.lemmas.List.{flat_map_more, take_more}
use Rattle.std.proofs.lemmas.Fmt.{decimal_from_appends, length-decimal-le_succ}
use Rattle.ruler.specs.Ruler.{word, word_low, word_high, word_fits}
use Rattle.geometry.specs.Cases.{lt_cases}
use Rattle.geometry.specs.Picture.{ZERO, SOLID, Tile}
use Rattle.table.specs.declared.Record.{Record}
use Rattle.layout.specs.Patch.{patch, patch_none, patch_start, Puts, puts_then}
use borrow.Rule.Slice.PartMut.{put_mid, post_of, Post-is}
use Rattle.lister.specs.Text.{glyph, digits_by, decimal, signed_text, spaced, solid_text, space_text, kind_text, newline, line_of, refused_text, refused_line}
use Rattle.lister.specs.declared.text.Text.{Text}

-- ---- digits

digits_low : (f n : ℕ) → n < 10 → digits_by (suc f) n ≡ glyph n ∷ []
unfolding digits_by
digits_low f n h = ap (λ b. cond b (glyph n ∷ []) (digits_by f (n / 10) ++ (glyph (n % 10) ∷ []))) (lt-ltb n 10 h)

digits_more : (f n : ℕ) → 10 ≤ n → digits_by (suc f) n ≡ digits_by f (n / 10) ++ (glyph (n % 10) ∷ [])
unfolding digits_by
digits_more f n h = ap (λ b. cond b (glyph n ∷ []) (digits_by f (n / 10) ++ (glyph (n % 10) ∷ []))) (le-ltb n 10 h)

-- any bound above n gives the same digits
digits_bound : (f g n : ℕ) → n < f → n < g → digits_by f n ≡ digits_by g n
digits_bound zero g n h k = absurd (not-suc-le-zero h)
digits_bound (suc f) zero n h k = absurd (not-suc-le-zero k)
digits_bound (suc f) (suc g) n h k =
    lt_cases n 10 (λ l. digits_low f n l ∙ sym (digits_low g n l))
    (λ l. digits_more f n l ∙ ap (λ ds. ds ++ (glyph (n % 10) ∷ [])) (digits_bound f g (n / 10) (omega arith) (omega arith)) ∙ sym (digits_more g n l))

pub decimal_low : (n : ℕ) → n < 10 → decimal n ≡ glyph n ∷ []
unfolding decimal
decimal_low n h = digits_low n n h

pub decimal_more : (n : ℕ) → 10 ≤ n → decimal n ≡ decimal (n / 10) ++ (glyph (n % 10) ∷ [])
unfolding decimal
decimal_more n h =
    digits_more n n h ∙ ap (λ ds. ds ++ (glyph (n % 10) ∷ [])) (digits_bound n (suc (n / 10)) (n / 10) (omega arith) (omega arith))

-- a number below 10^k has at most k digits
pub decimal_short : (k n : ℕ) → n < 10 ^ suc k → length (decimal n) ≤ suc k
decimal_short zero n h = let l : n < 10 = h in omega (arith, ap length (decimal_low n l))
decimal_short (suc k) n h =
    let p : n < 10 ^ suc k * 10 = subst (λ m. n < m) (pow-suc 10 (suc k)) h in
    lt_cases n 10 (λ l. omega (arith, ap length (decimal_low n l)))
    (λ l. let ih = decimal_short k (n / 10) (omega arith) in
    omega (arith, ap length (decimal_more n l), length-append (decimal (n / 10)) (glyph (n % 10) ∷ [])))

-- a word has at most ten
pub decimal_word : (n : ℕ) → n ≤ 2 ^ 31 → length (decimal n) ≤ 10
decimal_word n h = decimal_short 9 n (omega arith)

-- the digits that std writes
pub decimal_is : (n : ℕ) → n < 2 ^ 64 → decimal n ≡ digits 10 false n
unfolding decimal
decimal_is n h =
    decimal_from_appends digits_by (record { one = digits_low; more = digits_more }) (suc n) n h (omega (arith, length-decimal-le_succ n h))

-- ---- the number that digits say: so no two numbers have the same digits

pub value_from : ℕ → List ℕ → ℕ
value_from a [] = a
value_from a (d ∷ ds) = value_from (10 * a + (d - 48)) ds

value_append : (a : ℕ) (ds es : List ℕ) → value_from a (ds ++ es) ≡ value_from (value_from a ds) es
unfolding value_from
value_append a [] es = refl
value_append a (d ∷ ds) es = value_append (10 * a + (d - 48)) ds es

digits_value : (f n : ℕ) → n < f → value_from 0 (digits_by f n) ≡ n
unfolding value_from
digits_value zero n h = absurd (not-suc-le-zero h)
digits_value (suc f) n h =
    lt_cases n 10 (λ l. ap (value_from 0) (digits_low f n l) ∙ omega arith)
    (λ l. let ih = digits_value f (n / 10) (omega arith) in
    ap (value_from 0) (digits_more f n l) ∙ value_append 0 (digits_by f (n / 10)) (glyph (n % 10) ∷ []) ∙ omega arith)

pub decimal_value : (n : ℕ) → value_from 0 (decimal n) ≡ n
unfolding decimal
decimal_value n = digits_value (suc n) n (omega arith)

-- ---- signed numbers

pub signed_low : (w : ℕ) → w < ZERO → signed_text w ≡ 45 ∷ decimal (ZERO - w)
unfolding signed_text
signed_low w h = ap (λ b. cond b (45 ∷ decimal (ZERO - w)) (decimal (w - ZERO))) (lt-ltb w ZERO h)

pub signed_high : (w : ℕ) → ZERO ≤ w → signed_text w ≡ decimal (w - ZERO)
unfolding signed_text
signed_high w h = ap (λ b. cond b (45 ∷ decimal (ZERO - w)) (decimal (w - ZERO))) (le-ltb w ZERO h)

-- the text that std writes of the word
pub signed_is : (w : ℕ) → w < 2 ^ 32 → signed_text w ≡ signed_decimal (word w)
signed_is w h =
    lt_cases w ZERO
    (λ l. let e : ZERO - w ≡ suc (2147483647 - w) = omega arith in
    signed_low w l ∙ ap (λ ds. 45 ∷ ds) (decimal_is (ZERO - w) (omega arith) ∙ ap (digits 10 false) e) ∙ ap signed_decimal (sym (word_low w l)))
    (λ l. signed_high w l ∙ decimal_is (w - ZERO) (omega arith) ∙ ap signed_decimal (sym (word_high w l)))

-- a space, and that text of a word that is held by its bits
pub spaced_is : (w : ℕ) (z : ℤ) → w < 2 ^ 32 → z ≡ word w → 32 ∷ signed_decimal (to_z w32 (of_z w32 z)) ≡ spaced w
unfolding spaced
spaced_is w z h e =
    ap (λ x. 32 ∷ signed_decimal (to_z w32 (of_z w32 x))) e
    ∙ ap (λ x. 32 ∷ signed_decimal x) (to_z-of_z (word_fits w h))
    ∙ ap (λ ds. 32 ∷ ds) (sym (signed_is w h))

-- ---- kinds and lines

pub kind_solid : (k : ℕ) → k ≡ SOLID → kind_text k ≡ solid_text
unfolding kind_text
kind_solid k e = ap (λ b. cond b solid_text space_text) (eq-eqb k SOLID e)

pub kind_other : (k : ℕ) → (k ≡ SOLID → ⊥) → kind_text k ≡ space_text
unfolding kind_text
kind_other k e = ap (λ b. cond b solid_text space_text) (ne_eqb k SOLID e)

-- a line by its pieces, as they are written
pub line_pieces : (v : Tile)
    → (((kind_text v.paint.kind ++ spaced v.paint.label) ++ (spaced v.left ++ spaced v.bottom)) ++ (spaced v.right ++ spaced v.top)) ++ newline ≡ line_of v
unfolding line_of
line_pieces v = simp append_assoc

pub refused_pieces : (number value : ℕ) → (refused_text ++ (spaced number ++ spaced value)) ++ newline ≡ refused_line number value
unfolding refused_line
refused_pieces number value = simp append_assoc

-- a record's rectangle and what is painted on it
abbrev pub tile : Record → Tile
tile v = record { left = v.left; bottom = v.bottom; right = v.right; top = v.top; paint = record { kind = v.kind; label = v.label } }

-- a line: a name, and words behind it
abbrev pub row : List ℕ → List ℕ → List ℕ
row name words = (name ++ flat_map spaced words) ++ newline

pub line_row : (v : Tile) (name : List ℕ) → name ≡ kind_text v.paint.kind
    → row name (v.paint.label ∷ v.left ∷ v.bottom ∷ v.right ∷ v.top ∷ []) ≡ line_of v
unfolding line_of
line_row v name e = ap (λ n. row n (v.paint.label ∷ v.left ∷ v.bottom ∷ v.right ∷ v.top ∷ [])) e ∙ simp append_assoc

pub refused_row : (number value : ℕ) → row refused_text (number ∷ value ∷ []) ≡ refused_line number value
unfolding refused_line
refused_row number value = simp append_assoc

-- ---- digits as they are written

pub length_low : (n : ℕ) → n < 10 → length (decimal n) ≡ 1
length_low n h = ap length (decimal_low n h)

pub length_more : (n : ℕ) → 10 ≤ n → length (decimal n) ≡ length (decimal (n / 10)) + 1
length_more n h = ap length (decimal_more n h) ∙ length-append (decimal (n / 10)) (glyph (n % 10) ∷ [])

pub puts_low : (old new : List ℕ) (at n r : ℕ) → n < 10 → Puts old new at (glyph n ∷ []) r → Puts old new at (decimal n) r
puts_low old new at n r h p = subst (λ ds. Puts old new at ds r) (sym (decimal_low n h)) p

pub puts_more : (old mid new : List ℕ) (at next n r : ℕ) → 10 ≤ n → at + length (decimal n) ≤ length old → Puts old mid at (decimal (n / 10)) next
    → Puts mid new next (glyph (n % 10) ∷ []) r → Puts old new at (decimal n) r
puts_more old mid new at next n r h l p q =
    subst (λ ds. Puts old new at ds r) (sym (decimal_more n h))
    (puts_then old mid new at next r (decimal (n / 10)) (glyph (n % 10) ∷ []) (omega (arith, length_more n h, p.next, q.next)) p q)

-- ---- a signed number as it is written

pub puts_minus : (old mid new : List ℕ) (at n w r : ℕ) → w < ZERO → r ≤ length old → Puts old mid at (45 ∷ []) n → Puts mid new n (decimal (ZERO - w)) r
    → Puts old new at (signed_text w) r
puts_minus old mid new at n w r h l p q =
    subst (λ ds. Puts old new at ds r) (sym (signed_low w h)) (puts_then old mid new at n r (45 ∷ []) (decimal (ZERO - w)) l p q)

pub puts_plus : (old new : List ℕ) (at w r : ℕ) → ZERO ≤ w → Puts old new at (decimal (w - ZERO)) r → Puts old new at (signed_text w) r
puts_plus old new at w r h p = subst (λ ds. Puts old new at ds r) (sym (signed_high w h)) p

pub puts_spaced : (old mid new : List ℕ) (at n w r : ℕ) → r ≤ length old → Puts old mid at (32 ∷ []) n → Puts mid new n (signed_text w) r
    → Puts old new at (spaced w) r
unfolding spaced
puts_spaced old mid new at n w r l p q = puts_then old mid new at n r (32 ∷ []) (signed_text w) l p q

pub puts_solid : (old new : List ℕ) (at k r : ℕ) → k ≡ SOLID → Puts old new at solid_text r → Puts old new at (kind_text k) r
puts_solid old new at k r e p = subst (λ ds. Puts old new at ds r) (sym (kind_solid k e)) p

pub puts_space : (old new : List ℕ) (at k r : ℕ) → (k ≡ SOLID → ⊥) → Puts old new at space_text r → Puts old new at (kind_text k) r
puts_space old new at k r e p = subst (λ ds. Puts old new at ds r) (sym (kind_other k e)) p

-- ---- lines as they are written

pub puts_line : (v : Tile) (old o₁ o₂ o₃ o₄ new : List ℕ) (at n₁ n₂ n₃ n₄ r : ℕ) → r ≤ length old → Puts old o₁ at (kind_text v.paint.kind) n₁
    → Puts o₁ o₂ n₁ (spaced v.paint.label) n₂
    → Puts o₂ o₃ n₂ (spaced v.left ++ spaced v.bottom) n₃
    → Puts o₃ o₄ n₃ (spaced v.right ++ spaced v.top) n₄
    → Puts o₄ new n₄ newline r
    → Puts old new at (line_of v) r
puts_line v old o₁ o₂ o₃ o₄ new at n₁ n₂ n₃ n₄ r h p₁ p₂ p₃ p₄ p₅ =
    let l₄ : n₄ ≤ r = omega (arith, p₅.next) in
    let l₃ : n₃ ≤ n₄ = omega (arith, p₄.next) in
    let l₂ : n₂ ≤ n₃ = omega (arith, p₃.next) in
    let q₂ = puts_then old o₁ o₂ at n₁ n₂ _ _ (omega (arith, l₂, l₃, l₄, h)) p₁ p₂ in
    let q₃ = puts_then old o₂ o₃ at n₂ n₃ _ _ (omega (arith, l₃, l₄, h)) q₂ p₃ in
    let q₄ = puts_then old o₃ o₄ at n₃ n₄ _ _ (omega (arith, l₄, h)) q₃ p₄ in
    subst (λ ds. Puts old new at ds r) (line_pieces v) (puts_then old o₄ new at n₄ r _ _ h q₄ p₅)

pub puts_refused : (number value : ℕ) (old o₁ o₂ new : List ℕ) (at n₁ n₂ r : ℕ) → r ≤ length old → Puts old o₁ at refused_text n₁
    → Puts o₁ o₂ n₁ (spaced number ++ spaced value) n₂
    → Puts o₂ new n₂ newline r
    → Puts old new at (refused_line number value) r
puts_refused number value old o₁ o₂ new at n₁ n₂ r h p₁ p₂ p₃ =
    let l : n₂ ≤ r = omega (arith, p₃.next) in
    let q = puts_then old o₁ o₂ at n₁ n₂ _ _ (omega (arith, l, h)) p₁ p₂ in
    subst (λ ds. Puts old new at ds r) (refused_pieces number value) (puts_then old o₂ new at n₂ r _ _ h q p₃)

-- ---- text as it is written

-- t is s with a piece more, in the same lent bytes
pub record Adds (s : Text) (piece : List ℕ) (t : Text) : Type 0 where
  pub same : t.out.ghost_name ≡ s.out.ghost_name
  pub long : length t.out.now ≡ length s.out.now
  pub within : t.at ≤ length s.out.now
  pub puts : Puts s.out.now t.out.now s.at piece t.at

-- a piece put in the place of as many bytes
pub placed : (old piece new : List ℕ) (at : ℕ) → new ≡ piece → put_mid at (at + length piece - at) old new ≡ patch old at piece
unfolding patch
placed old piece new at e =
    ap (λ p. take at old ++ (p ++ post_of at (at + length piece - at) old)) e
    ∙ ap (λ r. take at old ++ (piece ++ r)) (Post-is at (at + length piece) old (omega arith))

-- one piece, then another right behind it
pub adds_then : (s t u : Text) (a b : List ℕ) → Adds s a t → Adds t b u → Adds s (a ++ b) u
adds_then s t u a b p q =
    let l : u.at ≤ length s.out.now = omega (arith, p.long, q.within) in
    record {
      same = q.same ∙ p.same;
      long = q.long ∙ p.long;
      within = l;
      puts = puts_then s.out.now t.out.now u.out.now s.at t.at u.at a b l p.puts q.puts;
    }

pub adds_is : (s t : Text) (a b : List ℕ) → a ≡ b → Adds s a t → Adds s b t
adds_is s t a b e p = subst (λ x. Adds s x t) e p

-- a word more
pub adds_word : (s t u : Text) (name words : List ℕ) (i w : ℕ) → i < length words → w ≡ get_or words i 0
    → Adds s (name ++ flat_map spaced (take i words)) t
    → Adds t (spaced w) u
    → Adds s (name ++ flat_map spaced (take (i + 1) words)) u
adds_word s t u name words i w h e p q =
    adds_is s u _ _
    (ap (λ v. (name ++ flat_map spaced (take i words)) ++ spaced v) e
    ∙ flat_map_more spaced name (take i words) (get_or words i 0)
    ∙ ap (λ ws. name ++ flat_map spaced ws) (sym (take_more words i 0 h)))
    (adds_then s t u _ _ p q)

-- all words, and the line's end
pub adds_row : (s t u : Text) (name words : List ℕ) (i : ℕ) → i ≡ length words → Adds s (name ++ flat_map spaced (take i words)) t
    → Adds t newline u
    → Adds s (row name words) u
adds_row s t u name words i e p q =
    adds_is s u _ _ (ap (λ ws. (name ++ flat_map spaced ws) ++ newline) (take_all i words (omega arith))) (adds_then s t u _ _ p q)

-- nothing is put
pub adds_none : (s : Text) → s.at ≤ length s.out.now → Adds s [] s
adds_none s h =
    record { same = refl; long = refl; within = h; puts = record { is = sym (patch_none s.out.now s.at); next = omega arith } }

-- text put from the start on
pub adds_start : (s t : Text) (piece : List ℕ) → s.at ≡ 0 → Adds s piece t → take t.at t.out.now ≡ piece
adds_start s t piece z p =
    let e : length piece ≡ t.at = omega (arith, p.puts.next) in
    ap (take t.at) (p.puts.is ∙ ap (λ at. patch s.out.now at piece) z ∙ patch_start s.out.now piece) ∙ take_at piece (drop (length piece) s.out.now) t.at e
