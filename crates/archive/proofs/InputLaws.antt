-- The input fields, written and read again. Assumes nothing.
use Prim.Native.Nat.{ℕ, ◌*◌, ◌^◌, ◌<◌}
use mathlib.Core.Path.{◌≡◌, refl, sym, ap}
use mathlib.Core.Bool.{not}
use mathlib.Core.List.{List}
use mathlib.Core.Logic.{⊎_elim}
use native.Mathlib.Omega.{arith}
use borrow.Author.Tests.{ne_eqb, eqb-true}
use lib.Dec.{T, eqb}
use lib.Ieee.{binary64, of_bits, is_nan}
use lib.Ieee.Bits.{to_bits-of_bits, of_bits-to_bits, to_bits-lt}
use lib.ListN.{length, get_or, take}
use Rattle.std.proofs.Common.{Option, Some, None}
use Rattle.config.specs.declared.Config.{Config}
use Rattle.archive.specs.Bytes.{number_size, number_of, numbers_bytes, AreBytes}
use Rattle.archive.specs.Layout.{inputs_size}
use Rattle.archive.specs.Inputs.{absent_slots, slots_number, slots_from, input_numbers, field_in, inputs_in, Fitting}
use Rattle.archive.specs.declared.inputs.Inputs.{Inputs}
use Rattle.archive.proofs.ByteLaws.{two, number_in_lt, number_at, numbers_again}
use Rattle.archive.proofs.Orders.{part_of_front}

slots_back : (s : Option ℕ) → (s ≡ Some absent_slots → ⊥) → slots_from (slots_number s) ≡ s
slots_back None h = refl
slots_back (Some n) h = rw (ne_eqb n absent_slots (λ e. h (ap Some e)))

slots_again : (n : ℕ) → slots_number (slots_from n) ≡ n
slots_again n = ⊎_elim (λ e. rw e (sym (eqb-true n absent_slots e))) (λ e. rw e) (two (eqb n absent_slots))

pub inputs_back : (x : Inputs) → Fitting x → (x.config.round_slots ≡ Some absent_slots → ⊥) → inputs_in (numbers_bytes (input_numbers x)) ≡ x
inputs_back x f told =
    let c : Config = x.config in
    let back : (i : ℕ) → i < 10 → get_or (input_numbers x) i 0 < 2 ^ 64 → field_in (numbers_bytes (input_numbers x)) i ≡ get_or (input_numbers x) i 0 =
    number_at (input_numbers x) in
    rw (
      back 0 (omega arith) f.topology_fits,
      back 1 (omega arith) f.first_fits,
      back 2 (omega arith) f.second_fits,
      back 3 (omega arith) f.repeats_fit,
      back 4 (omega arith) f.slots_fit,
      back 5 (omega arith) (to_bits-lt binary64 c.loss_rate f.rate_fits),
      back 6 (omega arith) f.seed_fits,
      back 7 (omega arith) f.proposals_fit,
      back 8 (omega arith) f.interval_fits,
      back 9 (omega arith) f.most_fits,
      slots_back c.round_slots told,
      of_bits-to_bits binary64 c.loss_rate f.rate_fits,
    )

pub inputs_again :
    (section : List ℕ) → AreBytes section → length section ≡ inputs_size → T (not (is_nan (of_bits binary64 (field_in section 5)))) →
    numbers_bytes (input_numbers (inputs_in section)) ≡ section
inputs_again section are e number =
    rw (
      slots_again (field_in section 4),
      to_bits-of_bits binary64 (field_in section 5) (number_in_lt section are number_size (number_size * 5) number_size (omega arith)) number,
    )
    (numbers_again section are 10 0 (sym e))

-- field i is one of the first n
pub field_of_front : (section : List ℕ) (n i : ℕ) → i < n → field_in (take (number_size * n) section) i ≡ field_in section i
field_of_front section n i h = ap number_of (part_of_front section (number_size * n) (number_size * i) number_size (omega arith))
