-- The flags of INIT's reply are among those of its request.
use Rattle.std.proofs.Common.{◌≡◌, ◌<◌, ℕ, ◌+◌, ◌-◌, ◌*◌, ◌%◌, ◌^◌, ◌==◌, Bool, true, false, refl, sym, ◌∙◌, ap, bit_and, if◌then◌else◌, mod-eq_of_lt, arith}
use Rattle.std.proofs.lemmas.Nat.{and_assoc, and_comm, and_le_r, and_mask}
use Rattle.std.proofs.lemmas.Grind.{common_steps}
use Rattle.fk_wire.specs.Requests.{known_flags}
use Rattle.fuse_protocol.specs.Agreement.{create_supp_group, init_ext, security_ctx}
use Rattle.fuse_protocol.specs.Init.{wide_flags}
use Rattle.fuse_spec.specs.declared.Minor.{Minor}
use Rattle.fuse_spec.specs.declared.Minor.TheVariants.{M15, M31}
use Rattle.fuse_spec.specs.Server.Performs.{flags_known}

-- the flags that a reply takes up, of these that are offered
abbrev pub taken_up : Minor → ℕ → ℕ
taken_up minor offered = bit_and (bit_and offered known_flags) (flags_known minor)

-- a part of a mask, of a number that has one
once : (n c : ℕ) → bit_and (bit_and n c) n ≡ bit_and n c
once n c =
    let self : bit_and n n ≡ n = simp common_steps in
    and_comm (bit_and n c) n ∙ sym (and_assoc c n n) ∙ ap (λ x. bit_and x c) self

-- Bits above those of a mask are not in it.
low_alone : (c n high : ℕ) → bit_and c (2 ^ 32 - 1) ≡ c → bit_and c (n + 2 ^ 32 * high) ≡ bit_and c n
low_alone c n high low =
    let split : (x : ℕ) → bit_and c x ≡ bit_and c (x % 2 ^ 32) =
    λ x. ap (λ y. bit_and y x) (sym low) ∙ and_assoc x c (2 ^ 32 - 1)
    ∙ ap (bit_and c) (and_comm (2 ^ 32 - 1) x ∙ and_mask x 32) in
    let same : (n + 2 ^ 32 * high) % 2 ^ 32 ≡ n % 2 ^ 32 = omega arith in
    split (n + 2 ^ 32 * high) ∙ ap (bit_and c) same ∙ sym (split n)

module _ (n c : ℕ) (low : bit_and c (2 ^ 32 - 1) ≡ c) where
  among : (high : ℕ) → bit_and (bit_and n c) (n + 2 ^ 32 * high) ≡ bit_and n c
  among high = and_assoc (n + 2 ^ 32 * high) n c ∙ ap (bit_and n) (low_alone c n high low)
      ∙ sym (and_assoc n n c) ∙ once n c

  offered_of : (high : ℕ) → bit_and (bit_and n c) (wide_flags n high) ≡ bit_and n c
  offered_of high = by (bit_and n init_ext == 0)
    where
      by : (b : Bool) → bit_and (bit_and n c) (if b then n else n + 2 ^ 32 * high) ≡ bit_and n c
      by true = once n c
      by false = among high

mask_of : (minor : Minor) → ℕ
mask_of minor = bit_and known_flags (flags_known minor)

-- What is taken up is among what is offered, however wide that is.
pub taken_up_offered : (minor : Minor) (n high : ℕ) → bit_and (taken_up minor n) (wide_flags n high) ≡ taken_up minor n
taken_up_offered M15 n high =
    let parts : taken_up M15 n ≡ bit_and n (bit_and known_flags (flags_known M15)) =
    and_assoc (flags_known M15) n known_flags in
    ap (λ x. bit_and x (wide_flags n high)) parts ∙ offered_of n (bit_and known_flags (flags_known M15)) refl high ∙ sym parts
taken_up_offered M31 n high =
    let parts : taken_up M31 n ≡ bit_and n (bit_and known_flags (flags_known M31)) =
    and_assoc (flags_known M31) n known_flags in
    ap (λ x. bit_and x (wide_flags n high)) parts ∙ offered_of n (bit_and known_flags (flags_known M31)) refl high ∙ sym parts

-- And there are no more flags behind them.
pub taken_up_narrow : (minor : Minor) (n high : ℕ) → wide_flags (taken_up minor n) high ≡ taken_up minor n
taken_up_narrow minor n high = rw (none minor) refl
  where
    none : (minor : Minor) → bit_and (taken_up minor n) init_ext ≡ 0
    none M15 = and_assoc init_ext (bit_and n known_flags) (flags_known M15) ∙ none_of (bit_and n known_flags)
      where
        none_of : (x : ℕ) → bit_and x 0 ≡ 0
        none_of x = and_comm x 0
    none M31 = and_assoc init_ext (bit_and n known_flags) (flags_known M31) ∙ none_of (bit_and n known_flags)
      where
        none_of : (x : ℕ) → bit_and x 0 ≡ 0
        none_of x = and_comm x 0

-- They are few.
pub taken_up_low : (minor : Minor) (n : ℕ) → taken_up minor n < 2 ^ 32
taken_up_low M15 n = omega (arith, and_le_r (bit_and n known_flags) (flags_known M15))
taken_up_low M31 n = omega (arith, and_le_r (bit_and n known_flags) (flags_known M31))

-- Flags beyond the first 32 are not among so few.
pub none_high : (offered taken_up' : ℕ) → taken_up' < 2 ^ 32
    → bit_and (bit_and offered taken_up') (security_ctx + create_supp_group) ≡ 0
none_high offered taken few =
    let low : bit_and taken (2 ^ 32 - 1) ≡ taken = and_mask taken 32 ∙ mod-eq_of_lt few in
    let none : bit_and taken (security_ctx + create_supp_group) ≡ 0 =
    ap (λ x. bit_and x (security_ctx + create_supp_group)) (sym low)
    ∙ and_assoc (security_ctx + create_supp_group) taken (2 ^ 32 - 1) ∙ and_comm taken 0 in
    and_assoc (security_ctx + create_supp_group) offered taken ∙ ap (bit_and offered) none ∙ and_comm offered 0
