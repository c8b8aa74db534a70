-- A word as its places: `packed f n` is the number whose place i is set where f i, for i below n, and `bit w i` is place i of w.
use Rattle.std.specs.Prelude.{◌≡◌, ℕ, zero, suc, ◌+◌, ◌-◌, ◌*◌, ◌/◌, ◌%◌, ◌^◌, ◌<◌, ◌≤◌, Bool, true, false, cond, ◌||◌, ◌==◌, bit_or, refl}
use Rattle.std.proofs.Common.{pow-suc, div-one, arith}
use Rattle.std.specs.Int.Bits.{or_step, or_zero_r}
use Rattle.std.proofs.lemmas.Bool.Decides.{nat_tests}
use Rattle.std.proofs.lemmas.Nat.Bits.{bit_at-suc, bit_at_above}
use Rattle.std.proofs.lemmas.Nat.{or_shifted, or_comm, pow_pos}

-- a bit as a number
abbrev pub digit : Bool → ℕ
digit true = 1
digit false = 0

abbrev pub packed : (ℕ → Bool) → ℕ → ℕ
packed f zero = 0
packed f (suc n) = digit (f 0) + 2 * packed (λ i. f (suc i)) n

abbrev pub bit : ℕ → ℕ → Bool
bit w i = w / 2 ^ i % 2 == 1

-- place i + 1 is place i of the half
pub bit_suc : (w i : ℕ) → bit w (suc i) ≡ bit (w / 2) i
bit_suc w i = grind (arith, bit_at-suc)

digit_le : (b : Bool) → digit b ≤ 1
digit_le true = omega arith
digit_le false = omega arith

-- a digit above and a number below
pub low_of : (b : Bool) (x : ℕ) → (digit b + 2 * x) % 2 ≡ digit b
low_of b x = omega (arith, digit_le b)

pub high_of : (b : Bool) (x : ℕ) → (digit b + 2 * x) / 2 ≡ x
high_of b x = omega (arith, digit_le b)

pub packed_lt : (f : ℕ → Bool) (n : ℕ) → packed f n < 2 ^ n
packed_lt f zero = omega arith
packed_lt f (suc n) = grind (arith, pow-suc, digit_le, packed_lt (λ i. f (suc i)) n)

pub packed_ext : (f g : ℕ → Bool) (n : ℕ) → ((i : ℕ) → i < n → f i ≡ g i) → packed f n ≡ packed g n
packed_ext f g zero h = refl
packed_ext f g (suc n) h = grind (arith, h 0, packed_ext (λ i. f (suc i)) (λ i. g (suc i)) n (λ i k. h (suc i) (omega arith)))

pub bit_packed : (f : ℕ → Bool) (n i : ℕ) → i < n → bit (packed f n) i ≡ f i
bit_packed f zero i h = absurd (omega arith)
bit_packed f (suc n) zero h = grind (arith, nat_tests, low_of, div-one)
bit_packed f (suc n) (suc i) h = grind (arith, bit_suc, high_of, bit_packed (λ i. f (suc i)) n i)

-- one more place, at the top
pub packed_more : (f : ℕ → Bool) (n : ℕ) → packed f (suc n) ≡ packed f n + digit (f n) * 2 ^ n
packed_more f zero = omega arith
packed_more f (suc n) = grind (arith, pow-suc, packed_more (λ i. f (suc i)) n)

pub or_packed : (f g : ℕ → Bool) (n : ℕ) → bit_or (packed f n) (packed g n) ≡ packed (λ i. f i || g i) n
or_packed f g zero = refl
or_packed f g (suc n) =
    let F = packed (λ i. f (suc i)) n in
    let G = packed (λ i. g (suc i)) n in
    grind (arith, or_step (digit (f 0) + 2 * F) (digit (g 0) + 2 * G), high_of, low_of, or_packed (λ i. f (suc i)) (λ i. g (suc i)) n)

-- every place set
pub packed_full : (n : ℕ) → packed (λ _. true) n ≡ 2 ^ n - 1
packed_full zero = refl
packed_full (suc n) = grind (arith, pow-suc, pow_pos n, packed_full n)

-- no place is set from n on in a number below 2^n
pub bit_above : (n w : ℕ) → w < 2 ^ n → bit w n ≡ false
bit_above n w h = grind (arith, nat_tests, bit_at_above)

-- one place set, or left
pub packed_with : (f : ℕ → Bool) (i w : ℕ) → w ≡ packed f i → bit_or w (cond (f i) (2 ^ i) 0) ≡ packed f (i + 1)
packed_with f i w was = grind (arith, packed_more f i, packed_lt f i, or_comm, or_zero_r, or_shifted 1 i (packed f i))
