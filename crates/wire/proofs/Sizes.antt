-- How long a text is at most. Assumes nothing.
use Rattle.std.specs.Prelude.{Option, Some, None}
use Prim.Native.Nat.{ℕ, zero, suc, ◌+◌, ◌*◌, ◌/◌, ◌%◌, ◌≤◌, ◌<◌}
use mathlib.Core.Path.{◌≡◌, refl}
use mathlib.Core.Bool.{Bool, true, false}
use mathlib.Core.List.{List}
use native.Mathlib.Nat.{suc-mul}
use native.Mathlib.Omega.{arith}
use lib.Dec.{ltb}
use lib.ListN.{length, length-append}
use borrow.Author.Tests.{ltb-true, ltb-false}
use Rattle.std.specs.Prelude.{Option, Some, None}
use Rattle.network.specs.declared.units.Term.{Term}
use Rattle.config.specs.Limits.{max_nodes}
use Rattle.network.specs.Graph.{has}
use Rattle.network.proofs.Sets.{and_both}
use Rattle.phy.specs.declared.packet.Piggyback.{Piggyback}
use Rattle.phy.specs.declared.packet.Packet.{Packet}
use Rattle.text.specs.Text.{ascii, spelled, each}
use Rattle.text.proofs.Spelling.{spelled_short}
use Rattle.wire.specs.Grammar.{array, body_most, body_text, data_fits, data_most, data_text, digit_most, flag_most, flag_text, flags_most, flags_text, header_most, header_text, last_accepted_fits}
use Rattle.wire.specs.Grammar.{last_accepted_text, nack_fits, nack_number, null_most, packet_text, piggyback_fits, piggyback_most, piggyback_text, small_most}
use Rattle.wire.specs.Writing.{NoLongerText}
use Rattle.wire.specs.View.{data_below, digit_text, digits_text, mark, marked_flag}
use Rattle.wire.proofs.Arrays.{data_text_lem, digits_one, digits_two, flags_each}
use Rattle.wire.proofs.Fitting.{FlagsFit, TermsFit, data_below_lem, fitting, nack_low}

small : (n : ℕ) → n < 100 → length (spelled n) ≤ small_most
small n h = spelled_short 2 n (omega arith) (omega arith)

last_accepted_size : (a : Option Term) → last_accepted_fits a ≡ true → length (last_accepted_text a) ≤ null_most
unfolding ascii
last_accepted_size None h = omega arith
last_accepted_size (Some t) h = omega (arith, small t.0 (omega (arith, ltb-true t.0 64 h)))

nack_size : (a : Option Term) → nack_fits a ≡ true → length (spelled (nack_number a)) ≤ small_most
nack_size a h = small (nack_number a) (omega (arith, nack_low a h))

-- a flag, with the mark in front of it
flag_size : (s i : ℕ) → length (marked_flag s i) ≤ flag_most
unfolding ascii
flag_size s i = omega (arith, length-append (mark i) (flag_text (has s i)), marked i, told (has s i))
  where
    marked : (i : ℕ) → length (mark i) ≤ 1
    marked zero = omega arith
    marked (suc i) = omega arith

    told : (f : Bool) → length (flag_text f) ≤ 5
    told true = omega arith
    told false = omega arith

-- texts of at most m bytes, one after the other
each_size : (f : ℕ → List ℕ) (m : ℕ) → ((i : ℕ) → length (f i) ≤ m) → (n : ℕ) → length (each f n) ≤ n * m
unfolding each
each_size f m h zero = omega arith
each_size f m h (suc n) = omega (arith, length-append (each f n) (f n), each_size f m h n, h n, suc-mul n m)

flags_size : (n s : ℕ) → 1 ≤ n → n ≤ max_nodes → length (flags_text n s) ≤ flags_most
unfolding ascii
flags_size n s one most =
    rw (flags_each s n one) (omega (arith, length-append (each (marked_flag s) n) (ascii "]"), each_size (marked_flag s) 6 (flag_size s) n))

-- the digits of a term's data
digit_size : (d : ℕ) → d < 10 → length (digit_text d) ≤ digit_most
unfolding ascii
digit_size d h = omega (arith, length-append (ascii ",") (spelled (48 + d)), small (48 + d) (omega arith))

digits_size : (t : ℕ) → t < 100 → length (digits_text t) ≤ small_most * digit_most
digits_size t h = case (ltb t 10) refl
  where
    case : (b : Bool) → ltb t 10 ≡ b → length (digits_text t) ≤ small_most * digit_most
    case true e = let low = ltb-true t 10 e in rw (digits_one t low) (omega (arith, digit_size t low))
    case false e =
        rw (digits_two t (ltb-false t 10 e) h)
        (omega (arith, length-append (digit_text (t / 10)) (digit_text (t % 10)), digit_size (t / 10) (omega arith), digit_size (t % 10) (omega arith)))

data_size : (d : Option Term) → data_below d ≡ true → length (data_text d) ≤ data_most
unfolding ascii data_text array
data_size None h = omega arith
data_size (Some t) h =
    let low = ltb-true t.0 64 h in
    rw (data_text_lem t) (simp length-append (omega (arith, digits_size t.0 (omega arith))))

piggyback_size : (b : Option Piggyback) → piggyback_fits b ≡ true → length (piggyback_text b) ≤ piggyback_most
unfolding ascii piggyback_text data_text array
piggyback_size None h = omega arith
piggyback_size (Some again) h =
    let both = and_both (ltb again.term.0 64) (data_fits again.term again.«data») h in
    let low = ltb-true again.term.0 64 both.0 in
    simp length-append
    (omega (arith, small again.term.0 (omega arith), data_size again.«data» (data_below_lem again.term again.«data» low both.1)))

header_size : (n : ℕ) (p : Packet) → FlagsFit n p → TermsFit p → length (header_text n p) ≤ header_most
unfolding ascii header_text
header_size n p f t =
    simp length-append
    (omega (
      arith,
      small p.current_term.0 (omega (arith, t.current)),
      last_accepted_size p.last_accepted_term t.last,
      flags_size n p.flags_bitmap (omega (arith, f.least)) f.most,
      nack_size p.nack_term t.nack,
      small p.sender.0 (omega (arith, f.sender, f.most)),
    ))

body_size : (p : Packet) → TermsFit p → length (body_text p) ≤ body_most
unfolding ascii body_text
body_size p t =
    simp length-append
    (omega (arith, data_size p.proposal_data (data_below_lem p.current_term p.proposal_data t.current t.own), piggyback_size p.piggyback t.again))

pub no_longer_text : NoLongerText
unfolding packet_text
no_longer_text n p h =
    let fit = fitting n p h in
    omega (arith, length-append (header_text n p) (body_text p), header_size n p fit.0 fit.1, body_size p fit.1)
