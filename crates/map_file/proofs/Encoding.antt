-- Bytes are those of a file exactly where no fault is found.
use Rattle.std.proofs.Common.{◌≡◌, ℕ, ◌<◌, true, List, [], length, get_or, is_ok, None, Ok, Err, Decides, Result, sym, refl, subst, ◌∙◌, IfOk}
use Rattle.std.specs.Result.{result_err, result_unwrap_or}
use Rattle.streets.specs.declared.refusal.Refusal.{Refusal}
use Rattle.streets.specs.Network.{network}
use Rattle.map_file.specs.Format.{encode, Encoded}
use Rattle.map_file.specs.Reading.{fault_of, points, file, MeansStated}
use Rattle.map_file.proofs.Decoded.{encoded_from}
use Rattle.map_file.proofs.Faults.{sound_from_none, none_from_sound}
use Rattle.map_file.proofs.Holds.{encode_holds}
use Rattle.map_file.proofs.Stated.{holds_sound, holds_means}

pub faultless : (b : List ℕ) → Encoded b → fault_of b ≡ None
faultless b (lists, valid, e) =
    subst (λ x. fault_of x ≡ None) (sym e) (none_from_sound (encode lists) (holds_sound (encode lists) lists (encode_holds lists) valid))

-- what the checks answer decides whether the bytes are those of a file
pub decides : {X : Type 0} (b : List ℕ) → ((i : ℕ) → get_or b i 0 < 256) → (r : Result X Refusal) → result_err r ≡ fault_of b → Decides (is_ok r) (Encoded b)
decides b small (Ok x) none = (λ _. encoded_from b (sound_from_none b (sym none)) small, λ _. refl)
decides b small (Err e) some = (λ t. cc, λ h. let n = faultless b h in cc)

-- a map over the bytes means the lists that they state
pub means_stated : (b c : List ℕ) → c ≡ b → MeansStated b (file c)
means_stated b c same lists valid e =
    let holds = encode_holds lists in
    subst (λ (x : List ℕ). (points x ≡ length lists) × ((p : ℕ) → (network (file x)).arcs p ≡ get_or lists p [])) (sym (same ∙ e)) (holds.points_are, holds_means (encode lists) lists holds)

-- the value that was there, and not the one in its place
pub kept : {X E : Type 0} (P : X → Type 0) (r : Result X E) (x : X) → is_ok r ≡ true → IfOk r P → P (result_unwrap_or r x)
kept P (Ok y) x ok p = p
kept P (Err e) x ok p = cc
