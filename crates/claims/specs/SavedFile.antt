-- What save writes is a file that load takes, of the same picture; and save depends on the picture alone. Assumes nothing.
use Rattle.std.specs.Prelude.{◌≡◌, ℕ, suc, ◌*◌, ◌/◌, ◌<◌, ℤ, length, get_or, take, drop}
use Rattle.std.proofs.Math.Path.{refl, ap, ap₂}
use Rattle.std.proofs.Common.{sym, ◌∙◌, arith, take_at}
use mathlib.Core.List.{List, [], ◌∷◌, ◌++◌, map}
use Rattle.std.proofs.lemmas.List.{length-map}
use Rattle.geometry.specs.Picture.{Tile}
use Rattle.table.specs.Sound.{SolidIn}
use Rattle.seek.specs.Meaning.{Area, Lists}
use Rattle.layout.specs.declared.bytes.Saved.{Saved}
use Rattle.layout.specs.Bytes.{file_bytes, SAVED}
use Rattle.layout.specs.BytesLaws.{file_length}
use Rattle.layout.specs.Order.{Comes, saved_of, Saves}
use Rattle.ushanderi.specs.Answers.{SHORT, answered}
use Rattle.ushanderi.specs.declared.answer.Answer.{Answer}
use Rattle.ushanderi.specs.Promises.{Fit, SaveSays}
use Rattle.claims.specs.AgreeChecks.{solid_used, not_fit}
use Rattle.claims.specs.AgreeReads.{save_agrees}
use Rattle.claims.specs.Pictures.{solid_by, renamed, renamed_twin}
use Rattle.claims.specs.Renamed.{lists_renamed}
use Rattle.claims.specs.Terms.{SamePicture, Twins}

-- what is saved of a solid, as the rectangle of a create
abbrev pub area_by : Saved → Area
area_by s = record { left = s.left; bottom = s.bottom; right = s.right; top = s.top }

abbrev pub saved_file : List ℤ → List ℕ → List ℕ
saved_file t ks = file_bytes (map (saved_of t) ks)

pub saved_number : (t : List ℤ) (ks : List ℕ) → length (saved_file t ks) / SAVED ≡ length ks
saved_number t ks = omega (arith, file_length (map (saved_of t) ks), length-map ks (saved_of t))

-- the bytes that an accepted save wrote
pub saved_bytes : (t : List ℤ) (out out' : List ℕ) (bytes : ℕ) (s : Saves t out out' bytes) → take bytes out' ≡ saved_file t s.solids
saved_bytes t out out' bytes s =
    let ss = map (saved_of t) s.solids in
    ap (take bytes) s.writes
    ∙ take_at (file_bytes ss) (drop bytes out) bytes (file_length ss ∙ ap (λ n. SAVED * n) (length-map s.solids (saved_of t)) ∙ sym s.number)

-- ---- save depends on the picture alone
comes_by : (t u : List ℤ) (i j k m : ℕ) → Twins t u i j → Twins t u k m → Comes t i k → Comes u j m
comes_by t u i j k m v w (Comes.higher h) =
    Comes.higher (omega (arith, ap (λ v. v.top) v.same, ap (λ v. v.top) w.same))
comes_by t u i j k m v w (Comes.level e h) =
    Comes.level (omega (arith, ap (λ v. v.top) v.same, ap (λ v. v.top) w.same))
    (omega (arith, ap (λ v. v.left) v.same, ap (λ v. v.left) w.same))

saved_by_lem : (t u : List ℤ) (i j : ℕ) → Twins t u i j → saved_of u j ≡ saved_of t i
unfolding saved_of
saved_by_lem t u i j w = ap saved_tile w.same
  where
    saved_tile : Tile → Saved
    saved_tile v = record { left = v.left; bottom = v.bottom; right = v.right; top = v.top; label = v.paint.label }

module _ (t u : List ℤ) (f : Fit t) (g : Fit u) (p : SamePicture t u) where
  ρ : ℕ → ℕ
  ρ = renamed t u f g p

  solids_renamed : (ks : List ℕ) → Lists (SolidIn t) (Comes t) ks → Lists (SolidIn u) (Comes u) (map ρ ks)
  unfolding ρ
  solids_renamed =
      lists_renamed t u f g p (SolidIn t) (SolidIn u) (Comes t) (Comes u) (solid_used t) (solid_used u)
      (λ i j w s. solid_by t u i j s w.twin w.same) (λ i j w s. solid_by u t j i s w.twin w.same) (comes_by t u)

  saved_renamed : (ks : List ℕ) → ((n : ℕ) → n < length ks → SolidIn t (get_or ks n 0)) → map (saved_of u) (map ρ ks) ≡ map (saved_of t) ks
  unfolding ρ
  saved_renamed [] h = refl
  saved_renamed (k ∷ ks) h =
      ap₂ ◌∷◌ (saved_by_lem t u k (ρ k) (renamed_twin t u f g p k (solid_used t k (h 0 (omega arith))))) (saved_renamed ks (λ n l. h (suc n) (omega arith)))

  -- what save may answer on one it may answer on the other
  saves_too : (out out' : List ℕ) (a : Answer) → SaveSays t out out' a → SaveSays u out out' a
  saves_too out out' a (SaveSays.unfit n w) = absurd (not_fit t a n f)
  saves_too out out' a (SaveSays.short o ks l h e w) =
      let q = length-map ks ρ in
      SaveSays.short g (map ρ ks) (solids_renamed ks l) (omega arith) (e ∙ ap (λ n. answered SHORT (SAVED * n)) (sym q)) w
  saves_too out out' a (SaveSays.done o n s h e) =
      SaveSays.done g n
      (record {
        solids = map ρ s.solids;
        lists = solids_renamed s.solids s.lists;
        number = s.number ∙ ap (λ n. SAVED * n) (sym (length-map s.solids ρ));
        writes = s.writes ∙ ap (λ ss. file_bytes ss ++ drop n out) (sym (saved_renamed s.solids s.lists.each));
      })
      h e

  pub save_by_picture : (out o o' : List ℕ) (a a' : Answer) → SaveSays t out o a → SaveSays u out o' a' → (a ≡ a') × (o ≡ o')
  save_by_picture out o o' a a' s s' = save_agrees u out o o' a a' (saves_too out o a s) s'
