-- The parameter byte: what is written is read back, and what is read is written back.
use Rattle.std.proofs.Common.{◌≡◌, ℕ, zero, suc, ◌+◌, ◌*◌, ◌/◌, ◌%◌, ◌<◌, Bool, true, false, cond, not, ◌&&◌, eqb, leb, refl, ap, ◌∙◌, ap₂, arith, le-leb, leb-true}
use Rattle.std.proofs.lemmas.Bool.{and_parts, and_from}
use Rattle.block.specs.declared.parameters.DacRate.{DacRate}
use Rattle.block.specs.declared.parameters.DacRate.TheVariants.{Khz32, Khz48}
use Rattle.block.specs.declared.parameters.ChannelMode.{ChannelMode}
use Rattle.block.specs.declared.parameters.ChannelMode.TheVariants.{Mono, Stereo}
use Rattle.block.specs.declared.parameters.Parameters.{Parameters}
use Rattle.block.specs.Layouts.{flag, rate, channels, parameters, right, keeps_ps_rule, sendable}
use Rattle.block.specs.SuperFrames.{dac_bit, mode_bit, parameter_byte}

-- a setting of one bit and its bit

dac_bit_lt : (d : DacRate) → dac_bit d < 2
dac_bit_lt Khz32 = omega arith
dac_bit_lt Khz48 = omega arith

mode_bit_lt : (m : ChannelMode) → mode_bit m < 2
mode_bit_lt Mono = omega arith
mode_bit_lt Stereo = omega arith

cond_lt : (b : Bool) → cond b 1 0 < 2
cond_lt true = omega arith
cond_lt false = omega arith

rate-dac_bit : (d : DacRate) → rate (eqb (dac_bit d) 1) ≡ d
rate-dac_bit Khz32 = refl
rate-dac_bit Khz48 = refl

channels-mode_bit : (m : ChannelMode) → channels (eqb (mode_bit m) 1) ≡ m
channels-mode_bit Mono = refl
channels-mode_bit Stereo = refl

eqb-cond : (b : Bool) → eqb (cond b 1 0) 1 ≡ b
eqb-cond true = refl
eqb-cond false = refl

dac_bit-rate : (x : ℕ) → x < 2 → dac_bit (rate (eqb x 1)) ≡ x
dac_bit-rate zero h = refl
dac_bit-rate (suc zero) h = refl
dac_bit-rate (suc (suc x)) h = absurd (omega arith)

mode_bit-channels : (x : ℕ) → x < 2 → mode_bit (channels (eqb x 1)) ≡ x
mode_bit-channels zero h = refl
mode_bit-channels (suc zero) h = refl
mode_bit-channels (suc (suc x)) h = absurd (omega arith)

cond-eqb : (x : ℕ) → x < 2 → cond (eqb x 1) 1 0 ≡ x
cond-eqb zero h = refl
cond-eqb (suc zero) h = refl
cond-eqb (suc (suc x)) h = absurd (omega arith)

not-eqb : (x : ℕ) → x < 2 → not (eqb x 1) ≡ true → x ≡ 0
not-eqb zero h e = refl
not-eqb (suc zero) h e = absurd (let z : ◌≡◌ {A = ℕ} 0 1 = cc in omega arith)
not-eqb (suc (suc x)) h e = absurd (omega arith)

-- the bits of a byte that is made of them
record Apart (byte d s m q u : ℕ) : Type 0 where
  pub top : byte / 128 % 2 ≡ 0
  pub dac : byte / 64 % 2 ≡ d
  pub sbr : byte / 32 % 2 ≡ s
  pub mode : byte / 16 % 2 ≡ m
  pub ps : byte / 8 % 2 ≡ q
  pub surround : byte / 4 % 2 * 4 + byte / 2 % 2 * 2 + byte / 1 % 2 ≡ u

apart : (d s m q u : ℕ) → d < 2 → s < 2 → m < 2 → q < 2 → u < 8 → Apart (d * 64 + s * 32 + m * 16 + q * 8 + u) d s m q u
apart d s m q u hd hs hm hq hu = record { top = omega arith; dac = omega arith; sbr = omega arith; mode = omega arith; ps = omega arith; surround = omega arith }

joined : (b : ℕ) → b < 256 → b / 128 % 2 ≡ 0
    → b / 64 % 2 * 64 + b / 32 % 2 * 32 + b / 16 % 2 * 16 + b / 8 % 2 * 8 + (b / 4 % 2 * 4 + b / 2 % 2 * 2 + b / 1 % 2) ≡ b
joined b h e = omega arith

-- what is written is read back

module _ (p : Parameters) where
  surround_lt : sendable p ≡ true → p.surround < 8
  surround_lt e = omega (arith, leb-true p.surround 7 (and_parts (leb p.surround 7) _ e).0)

  bits_of : p.surround < 8
      → Apart (parameter_byte p) (dac_bit p.dac) (cond p.sbr 1 0) (mode_bit p.mode) (cond p.ps 1 0) p.surround
  bits_of h = apart _ _ _ _ _ (dac_bit_lt p.dac) (cond_lt p.sbr) (mode_bit_lt p.mode) (cond_lt p.ps) h

  pub parameter_byte_lt : sendable p ≡ true → parameter_byte p < 128
  parameter_byte_lt e =
      omega (arith, surround_lt e, dac_bit_lt p.dac, cond_lt p.sbr, mode_bit_lt p.mode, cond_lt p.ps)

  pub parameters-parameter_byte : sendable p ≡ true → parameters (parameter_byte p) ≡ p
  parameters-parameter_byte e =
      ap₂ (λ d s. record { dac = d; sbr = s; mode = read.mode; ps = read.ps; surround = read.surround })
      (ap (λ (x : ℕ). rate (eqb x 1)) a.dac ∙ rate-dac_bit p.dac) (ap (λ (x : ℕ). eqb x 1) a.sbr ∙ eqb-cond p.sbr)
      ∙ ap₂ (λ m q. record { dac = p.dac; sbr = p.sbr; mode = m; ps = q; surround = read.surround })
      (ap (λ (x : ℕ). channels (eqb x 1)) a.mode ∙ channels-mode_bit p.mode) (ap (λ (x : ℕ). eqb x 1) a.ps ∙ eqb-cond p.ps)
      ∙ ap (λ (u : ℕ). record { dac = p.dac; sbr = p.sbr; mode = p.mode; ps = p.ps; surround = u }) a.surround
    where
      a : Apart (parameter_byte p) (dac_bit p.dac) (cond p.sbr 1 0) (mode_bit p.mode) (cond p.ps 1 0) p.surround
      a = bits_of (surround_lt e)

      read : Parameters
      read = parameters (parameter_byte p)

  pub right-parameter_byte : sendable p ≡ true → right (parameter_byte p) ≡ true
  right-parameter_byte e =
      ap₂ (λ (x : ℕ) q. not (eqb x 1) && keeps_ps_rule q) a.top (parameters-parameter_byte e) ∙ (and_parts (leb p.surround 7) _ e).1
    where
      a : Apart (parameter_byte p) (dac_bit p.dac) (cond p.sbr 1 0) (mode_bit p.mode) (cond p.ps 1 0) p.surround
      a = bits_of (surround_lt e)

-- what is read is written back

module _ (b : ℕ) where
  pub parameter_byte-parameters : b < 256 → right b ≡ true → parameter_byte (parameters b) ≡ b
  parameter_byte-parameters h e =
      ap₂ (λ (d s : ℕ). d * 64 + s * 32 + mode_bit read.mode * 16 + cond read.ps 1 0 * 8 + read.surround)
      (dac_bit-rate (b / 64 % 2) (omega arith)) (cond-eqb (b / 32 % 2) (omega arith))
      ∙ ap₂ (λ (m q : ℕ). b / 64 % 2 * 64 + b / 32 % 2 * 32 + m * 16 + q * 8 + read.surround)
      (mode_bit-channels (b / 16 % 2) (omega arith)) (cond-eqb (b / 8 % 2) (omega arith))
      ∙ joined b h (not-eqb (b / 128 % 2) (omega arith) (and_parts (not (flag b 0)) _ e).0)
    where
      read : Parameters
      read = parameters b

  pub sendable-parameters : right b ≡ true → sendable (parameters b) ≡ true
  sendable-parameters e =
      and_from (leb (parameters b).surround 7) _ (le-leb _ 7 (omega arith)) (and_parts (not (flag b 0)) _ e).1
