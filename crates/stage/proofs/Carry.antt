-- A sum made digit by digit with a saved carry, over the digit's size k.
use Rattle.std.proofs.Common.{◌≡◌, ℕ, suc, ◌+◌, ◌-◌, ◌*◌, ◌/◌, ◌%◌, ◌^◌, ◌<◌, ◌≤◌, Bool, true, false, cond, sym, ap, ◌∙◌, subst, mul-le-mul_right, mod-lt, add_comm, div-add-mod', zero-mul, arith, pow_pos, pow-add, shr-shr}
use lib.Arith.{digits_mod, digits_lt}
use lib.Bits.{bit_and, bit_or}
use lib.Pow.{mod-pow-add, mod-mod-pow}
use Rattle.std.proofs.lemmas.Nat.{and_mask, one_shl, div-mul-add, div_below, shl_whole, or_comm, or_shifted}
use Rattle.stage.specs.Adder.{Digits, digit_of, digit_sum}
use Rattle.stage.specs.declared.adder.Added.{Added}

-- the bits of n below place p, or their complement
abbrev pub low : Bool → ℕ → ℕ → ℕ
low false n p = n % 2 ^ p
low true n p = 2 ^ p - 1 - n % 2 ^ p

pub masked : (n k : ℕ) → k < 32 → bit_and n ((1 * 2 ^ k) % 2 ^ 32 - 1) ≡ n % 2 ^ k
masked n k h = rw (one_shl k 32 h) (and_mask n k)

pub digit_below : (f : Bool) (n p k : ℕ) → digit_of f n p k < 2 ^ k
digit_below false n p k = mod-lt (n / 2 ^ p) (pow_pos k)
digit_below true n p k = omega (arith, pow_pos k)

pub low_below : (f : Bool) (n p : ℕ) → low f n p < 2 ^ p
low_below false n p = mod-lt n (pow_pos p)
low_below true n p = omega (arith, pow_pos p)

-- one digit more
pub low_more : (f : Bool) (n p k : ℕ) → low f n (k + p) ≡ low f n p + digit_of f n p k * 2 ^ p
low_more false n p k = omega (arith, mod-pow-add n k p)
low_more true n p k =
    let d = n / 2 ^ p % 2 ^ k in
    let h : suc d ≤ 2 ^ k = mod-lt (n / 2 ^ p) (pow_pos k) in
    let e : 2 ^ k - 1 - d + suc d ≡ 2 ^ k = omega arith in
    omega (arith, mod-pow-add n k p, pow-add 2 k p, mod-lt n (pow_pos p), ap (λ m. m * 2 ^ p) e)

-- the low j bits of a digit of j + 1
digit_part : (f : Bool) (n p j : ℕ) → digit_of f n p (1 + j) % 2 ^ j ≡ digit_of f n p j
digit_part false n p j = mod-mod-pow (n / 2 ^ p) 1 j
digit_part true n p j =
    let m = n / 2 ^ p in
    let e : m % 2 ^ (1 + j) ≡ (m / 2 ^ j % 2) * 2 ^ j + m % 2 ^ j = mod-pow-add m 1 j in
    let b : m / 2 ^ j % 2 < 2 = omega arith in
    let l : m % 2 ^ j < 2 ^ j = mod-lt m (pow_pos j) in
    let q : 2 ^ (1 + j) ≡ 2 * 2 ^ j = pow-add 2 1 j in
    let c : 1 - m / 2 ^ j % 2 + m / 2 ^ j % 2 ≡ 1 = omega arith in
    let s : 2 ^ (1 + j) - 1 - m % 2 ^ (1 + j) ≡ (1 - m / 2 ^ j % 2) * 2 ^ j + (2 ^ j - 1 - m % 2 ^ j) = omega (arith, ap (λ v. v * 2 ^ j) c) in
    let o : 2 ^ j - 1 - m % 2 ^ j < 2 ^ j = omega arith in
    ap (λ v. v % 2 ^ j) s ∙ digits_mod (1 - m / 2 ^ j % 2) o

-- the digits of a shifted number
digit_shift : (f : Bool) (n p s k : ℕ) → digit_of f n (p + s) k ≡ digit_of f (n / 2 ^ s) p k
digit_shift false n p s k = rw (shr-shr n s p, add_comm s p)
digit_shift true n p s k = rw (shr-shr n s p, add_comm s p)

-- what the adder has after p places: the sum of the bits below them is the word with the carry above it
pub record Sum (a : ℕ) (f : Bool) (n first p word carry : ℕ) : Type 0 where
  pub total : word + carry * 2 ^ p ≡ a % 2 ^ p + low f n p + first
  pub below : word < 2 ^ p

sum_more : (a : ℕ) (f : Bool) (n first p word carry k : ℕ) → Sum a f n first p word carry
    → Sum a f n first (k + p) ((a / 2 ^ p % 2 ^ k + digit_of f n p k + carry) % 2 ^ k * 2 ^ p + word) ((a / 2 ^ p % 2 ^ k + digit_of f n p k + carry) / 2 ^ k)
sum_more a f n first p word carry k s =
    let t = a / 2 ^ p % 2 ^ k + digit_of f n p k + carry in
    let e : t / 2 ^ k * 2 ^ k + t % 2 ^ k ≡ t = div-add-mod' t (2 ^ k) in
    record {
      total = omega (arith, low_more f n p k, mod-pow-add a k p, ap (λ m. t / 2 ^ k * m) (pow-add 2 k p), ap (λ m. m * 2 ^ p) e);
      below = rw (pow-add 2 k p) (digits_lt (mod-lt t (pow_pos k)) s.below);
    }

-- the carry is what is left above the word
carry_is : (a : ℕ) (f : Bool) (n first p word carry : ℕ) → Sum a f n first p word carry → carry ≡ (a % 2 ^ p + low f n p + first) / 2 ^ p
carry_is a f n first p word carry s = sym (ap (λ m. m / 2 ^ p) (omega (arith, s.total)) ∙ div-mul-add carry (2 ^ p) word s.below)

-- the first carry is 1 or none
pub first_fits : (f : Bool) → cond f 1 0 ≤ 1
first_fits true = omega arith
first_fits false = omega arith

pub carry_one : (a : ℕ) (f : Bool) (n first p word carry : ℕ) → first ≤ 1 → Sum a f n first p word carry → carry ≤ 1
carry_one a f n first p word carry h s =
    let l : a % 2 ^ p + low f n p + first < 2 * 2 ^ p = omega (arith, mod-lt a (pow_pos p), low_below f n p) in
    omega (arith, carry_is a f n first p word carry s, div_below (a % 2 ^ p + low f n p + first) (2 ^ p) 2 (pow_pos p) l)

-- the same with the carry that went into the top one of the p places
pub record State (a : ℕ) (f : Bool) (n first p word carry into : ℕ) : Type 0 where
  pub sum : Sum a f n first p word carry
  pub top : (j : ℕ) → suc j ≡ p → into ≡ (a % 2 ^ j + low f n j + first) / 2 ^ j

at_start : (a : ℕ) (f : Bool) (n first : ℕ) → State a f n first 0 0 first 0
at_start a false n first = record { sum = record { total = omega arith; below = omega arith }; top = λ j e. absurd (omega arith) }
at_start a true n first = record { sum = record { total = omega arith; below = omega arith }; top = λ j e. absurd (omega arith) }

pub starts : (a : ℕ) (f : Bool) (n first k : ℕ) → State a f n first (0 * k) 0 first 0
starts a f n first k = rw (zero-mul k) (at_start a f n first)

-- one digit more, its sum put above the word
state_more : (a : ℕ) (f : Bool) (n first p word carry into k P Q : ℕ) (A : Added) → 1 ≤ k → State a f n first p word carry into
    → P ≡ a / 2 ^ p % 2 ^ k → Q ≡ digit_of f n p k → A ≡ digit_sum k P Q carry
    → State a f n first (k + p) (A.digit * 2 ^ p + word) A.carry A.into
state_more a f n first p word carry into k P Q A h s eP eQ eA = rw (eA, eP, eQ) (record {
  sum = sum_more a f n first p word carry k s.sum;
  top = λ i e.
      let d : i ≡ k - 1 + p = omega arith in
      let x : 1 + (k - 1) ≡ k = omega arith in
      let part : (g : Bool) (v : ℕ) → digit_of g v p k % 2 ^ (k - 1) ≡ digit_of g v p (k - 1) =
      λ g v. subst (λ w. digit_of g v p w % 2 ^ (k - 1) ≡ digit_of g v p (k - 1)) x (digit_part g v p (k - 1)) in
      let t = carry_is _ _ _ _ _ _ _ (sum_more a f n first p word carry (k - 1) s.sum) in
      rw (part false a, part f n, d) t;
})

-- a digit stands within the word
pub room : (k n i : ℕ) → Digits k n → i < n → i * k + k ≤ 32
room k n i d h = omega (arith, d.whole, mul-le-mul_right k h)

pub full : (k n i : ℕ) → Digits k n → i ≤ n → n ≤ i → i * k ≡ 32
full k n i d h l = let e : i ≡ n = omega arith in rw e d.whole

-- a digit put above the word
put : (d p j word : ℕ) → d < 2 ^ j → j + p ≤ 32 → word < 2 ^ p → bit_or word ((d * 2 ^ p) % 2 ^ 32) ≡ d * 2 ^ p + word
put d p j word h k l = ap (bit_or word) (shl_whole d j p 32 h k) ∙ or_comm word (d * 2 ^ p) ∙ or_shifted d p word l

-- one tick, in the code's own terms
pub ticks_on : (a : ℕ) (f : Bool) (w s first k n i word carry into P Q : ℕ) (A : Added) → Digits k n → i < n
    → State a f (w / 2 ^ s) first (i * k) word carry into
    → P ≡ a / 2 ^ (i * k) % 2 ^ k → Q ≡ digit_of f w (i * k + s) k → A ≡ digit_sum k P Q carry
    → State a f (w / 2 ^ s) first ((i + 1) * k) (bit_or word ((A.digit * 2 ^ (i * k)) % 2 ^ 32)) A.carry A.into
ticks_on a f w s first k n i word carry into P Q A d h st eP eQ eA =
    let r : k + i * k ≤ 32 = omega (arith, room k n i d h) in
    let x : (i + 1) * k ≡ k + i * k = omega arith in
    let l : A.digit < 2 ^ k = rw eA (mod-lt (P + Q + carry) (pow_pos k)) in
    let q : Q ≡ digit_of f (w / 2 ^ s) (i * k) k = eQ ∙ digit_shift f w (i * k) s k in
    rw (x, put A.digit (i * k) k word l r st.sum.below) (state_more a f (w / 2 ^ s) first (i * k) word carry into k P Q A d.some st eP q eA)

-- one bit more of an operand's digit
pub gathers : (n p j q b : ℕ) → j < 32 → q ≡ n / 2 ^ p % 2 ^ j → b ≡ n / 2 ^ (p + j) % 2 → bit_or q ((b * 2 ^ j) % 2 ^ 32) ≡ n / 2 ^ p % 2 ^ (j + 1)
gathers n p j q b h eq eb =
    let m = n / 2 ^ p in
    let o : b < 2 ^ 1 = omega (arith, eb) in
    let l : q < 2 ^ j = rw eq (mod-lt m (pow_pos j)) in
    let e : b ≡ m / 2 ^ j % 2 = eb ∙ ap (λ v. v % 2) (sym (shr-shr n p j)) in
    put b j 1 q o (omega arith) l ∙ rw (add_comm j 1, mod-pow-add m 1 j, e, eq)
