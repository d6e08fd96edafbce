-- Save step by step: the records written in the order of their keys. Assumes nothing.
use Rattle.std.specs.Prelude.{◌≡◌, refl, List, [], ◌∷◌, ◌++◌, map, ℕ, suc, ◌+◌, ◌*◌, ◌≤◌, ◌<◌, ℤ, length, get_or, take, drop}
use Rattle.std.proofs.Common.{sym, ap, ap₂, ◌∙◌, subst, append-nil, append_assoc, arith, length-append, take-suc, length-take-le, take_at}
use Rattle.std.proofs.lemmas.List.{length-map}
use Rattle.std.proofs.Math.Seq.{take-length}
use Rattle.table.specs.Words.{records_of}
use Rattle.table.specs.Sound.{SizeRight, solids_in}
use Rattle.table.specs.Forms.{Forms}
use Rattle.layout.specs.declared.bytes.Saved.{Saved}
use Rattle.layout.specs.Bytes.{record_bytes, file_bytes, SavedFits, SAVED}
use Rattle.layout.specs.BytesLaws.{file_length, record_length}
use Rattle.layout.specs.Patch.{patch, patch_none, patch_then, patch_start}
use Rattle.layout.specs.Order.{saved_of}
use Rattle.sorting.specs.Sorting.{Sorts}
use Rattle.sorting.specs.Keys.{record_of}
use Rattle.layout.specs.Keys.{keys_to, CollectsKeys, record_at}

-- ---- writing

-- what is saved, by keys
abbrev pub saved_by : List ℤ → List ℕ → List Saved
saved_by t ks = map (saved_of t) (map record_of ks)

-- what reading a record for a file gives
pub record SavedFrom (t : List ℤ) (i : ℕ) (s : Saved) : Type 0 where
  pub is : s ≡ saved_of t i
  pub fits : SavedFits s

-- the loop: k records are written
pub record Writing (t : List ℤ) (ks out₀ out : List ℕ) (k : ℕ) : Type 0 where
  pub within : k ≤ length ks
  pub long : length out ≡ length out₀
  pub is : out ≡ patch out₀ 0 (file_bytes (saved_by t (take k ks)))

pub writing_none : (t : List ℤ) (ks out : List ℕ) → Writing t ks out out 0
unfolding file_bytes
writing_none t ks out = record { within = omega arith; long = refl; is = sym (patch_none out 0) }

file_more : (ss : List Saved) (s : Saved) → file_bytes (ss ++ (s ∷ [])) ≡ file_bytes ss ++ record_bytes s
unfolding file_bytes
file_more [] s = append-nil (record_bytes s)
file_more (x ∷ ss) s = ap (λ l. record_bytes x ++ l) (file_more ss s) ∙ sym (append_assoc (record_bytes x) (file_bytes ss) (record_bytes s))

saved_more : (t : List ℤ) (ks : List ℕ) (k : ℕ) → saved_by t (ks ++ (k ∷ [])) ≡ saved_by t ks ++ (saved_of t (record_of k) ∷ [])
saved_more t [] k = refl
saved_more t (x ∷ ks) k = ap (λ l. saved_of t (record_of x) ∷ l) (saved_more t ks k)

pub saved_length : (t : List ℤ) (ks : List ℕ) → length (file_bytes (saved_by t ks)) ≡ SAVED * length ks
saved_length t ks = file_length (saved_by t ks) ∙ ap (λ n. SAVED * n) (length-map (map record_of ks) (saved_of t) ∙ length-map ks record_of)

pub writing_more : (t : List ℤ) (ks out₀ out : List ℕ) (k : ℕ) (s : Saved) (out' : List ℕ) → Writing t ks out₀ out k → k < length ks
    → SAVED * length ks ≤ length out₀ → s ≡ saved_of t (record_of (get_or ks k 0)) → out' ≡ patch out (SAVED * k) (record_bytes s) → length out' ≡ length out
    → Writing t ks out₀ out' (k + 1)
writing_more t ks out₀ out k s out' w h l e p m =
    let q : k + 1 ≡ suc k = omega arith in
    let done : List ℕ = file_bytes (saved_by t (take k ks)) in
    let lk : length (take k ks) ≡ k = length-take-le k ks (omega arith) in
    let ld : length done ≡ SAVED * k = saved_length t (take k ks) ∙ ap (λ n. SAVED * n) lk in
    let x : List ℕ = record_bytes (saved_of t (record_of (get_or ks k 0))) in
    let next : file_bytes (saved_by t (take (k + 1) ks)) ≡ done ++ x =
    ap (λ n. file_bytes (saved_by t (take n ks))) q ∙ ap (λ r. file_bytes (saved_by t r)) (take-suc ks k 0 h)
    ∙ ap file_bytes (saved_more t (take k ks) (get_or ks k 0)) ∙ file_more (saved_by t (take k ks)) (saved_of t (record_of (get_or ks k 0))) in
    let z : length (done ++ x) ≡ SAVED * (k + 1) = length-append done x ∙ omega (arith, record_length (saved_of t (record_of (get_or ks k 0)))) in
    record {
      within = omega arith;
      long = m ∙ w.long;
      is = p ∙ ap₂ (λ o r. patch o (SAVED * k) (record_bytes r)) w.is e ∙ patch_then out₀ 0 done x (SAVED * k) (omega arith) (omega arith) ∙ ap (patch out₀ 0) (sym next);
    }

pub written : (t : List ℤ) (ks out₀ out : List ℕ) (k : ℕ) → Writing t ks out₀ out k → length ks ≤ k
    → out ≡ file_bytes (saved_by t ks) ++ drop (SAVED * length ks) out₀
written t ks out₀ out k w h =
    let e : k ≡ length ks = omega arith in
    w.is ∙ ap (λ n. patch out₀ 0 (file_bytes (saved_by t (take n ks)))) e ∙ ap (λ l. patch out₀ 0 (file_bytes (saved_by t l))) (take-length ks)
    ∙ patch_start out₀ (file_bytes (saved_by t ks)) ∙ ap (λ n. file_bytes (saved_by t ks) ++ drop n out₀) (saved_length t ks)

-- ---- save: the n keys among those collected are back as ys, sorted

module _ (t : List ℤ) (f : Forms t) (z : SizeRight t) (keys : List ℕ) (n : ℕ) (c : CollectsKeys t keys n) (fit : n ≤ length keys) (ys : List ℕ)
    (long : length ys ≡ length (take n keys)) (s : Sorts (take n keys) ys) where
  pub back_long : length ys ≡ n
  back_long = long ∙ length-take-le n keys fit

  pub back : take n (ys ++ drop n keys) ≡ ys
  back = take_at ys (drop n keys) n back_long

  pub back_count : n ≡ length (take n (ys ++ drop n keys))
  back_count = sym back_long ∙ ap length (sym back)

  pub are_sorted : Sorts (keys_to t (records_of t)) ys
  are_sorted = subst (λ l. Sorts l ys) c.are s

  -- the part that is handed on
  pub back_fits : SAVED * length (take n (ys ++ drop n keys)) ≡ SAVED * solids_in t
  back_fits = ap (λ l. SAVED * length l) back ∙ ap (λ m. SAVED * m) (back_long ∙ c.number)

  pub back_below : (k : ℕ) → k < length (take n (ys ++ drop n keys)) → record_of (get_or (take n (ys ++ drop n keys)) k 0) < records_of t
  back_below k h =
      subst (λ l. record_of (get_or l k 0) < records_of t) (sym back) (record_at t f z ys are_sorted k (subst (λ l. k < length l) back h)).below
