-- The ten input fields of a file (rule 16.3), in the line's order, and what is read from them.
use Rattle.std.specs.Prelude.{ℕ, ◌*◌, ◌-◌, ◌^◌, ◌<◌, cond, List, [], ◌∷◌, T, eqb, Option, Some, None}
use Rattle.std.specs.Float.{binary64}
use Rattle.std.specs.Float.Ieee.{fits, of_bits, to_bits}
use Rattle.config.specs.declared.Config.{Config}
use Rattle.archive.specs.Bytes.{number_size, number_in}
use Rattle.archive.specs.declared.inputs.Inputs.{Inputs}

-- absent round slots
abbrev pub absent_slots : ℕ
absent_slots = 2 ^ 64 - 1

abbrev pub slots_number : Option ℕ → ℕ
slots_number None = absent_slots
slots_number (Some slots) = slots

-- topology, first, second, repeats, round slots, loss as its f64's bits, seed, P, interval and slot limit
abbrev pub input_numbers : Inputs → List ℕ
input_numbers x =
    let c : Config = x.config in
    x.topology ∷ x.first ∷ x.second
    ∷ c.flood_repeats ∷ slots_number c.round_slots ∷ to_bits binary64 c.loss_rate ∷ c.seed
    ∷ c.num_proposals ∷ c.snapshot_interval ∷ c.max_slots ∷ []

-- field i of a section
abbrev pub field_in : List ℕ → ℕ → ℕ
field_in section i = number_in number_size (number_size * i) section

abbrev pub slots_from : ℕ → Option ℕ
slots_from slots = cond (eqb slots absent_slots) None (Some slots)

-- what the fields of a section ask for
abbrev pub inputs_in : List ℕ → Inputs
inputs_in section =
    record {
      topology = field_in section 0;
      first = field_in section 1;
      second = field_in section 2;
      config = record {
        flood_repeats = field_in section 3;
        round_slots = slots_from (field_in section 4);
        loss_rate = of_bits binary64 (field_in section 5);
        seed = field_in section 6;
        num_proposals = field_in section 7;
        snapshot_interval = field_in section 8;
        max_slots = field_in section 9;
      };
    }

-- inputs that the code can hold: numbers of 64 bits, and an f64
pub record Fitting (x : Inputs) : Type 0 where
  pub topology_fits : x.topology < 2 ^ 64
  pub first_fits : x.first < 2 ^ 64
  pub second_fits : x.second < 2 ^ 64
  pub repeats_fit : x.config.flood_repeats < 2 ^ 64
  pub slots_fit : slots_number x.config.round_slots < 2 ^ 64
  pub rate_fits : T (fits binary64 x.config.loss_rate)
  pub seed_fits : x.config.seed < 2 ^ 64
  pub proposals_fit : x.config.num_proposals < 2 ^ 64
  pub interval_fits : x.config.snapshot_interval < 2 ^ 64
  pub most_fits : x.config.max_slots < 2 ^ 64
