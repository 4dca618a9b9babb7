-- What is proved of a writing besides the functions' contracts. The proofs are in proofs/Laws.antt, under these names in lower case.
use Rattle.std.specs.Prelude.{◌≡◌, true, false, List, [], ◌++◌, ◌↔◌, ℕ, ◌-◌, ◌^◌, ◌≤◌, ◌<◌, length, get_or, take, drop, replicate, Option, Ok, Err}
use Rattle.octets.specs.Layout.{laid_out}
use Rattle.frame.specs.Closing.{close_size, flagged_by}
use Rattle.frame.specs.Opening.{open_of}
use Rattle.packet.specs.Header.{PacketItem, packet_header, length_bias, idle_application}
use Rattle.table.specs.Table.{First, None}
use Rattle.frame.specs.Theorems.{Points, word_number}
use Rattle.frame.specs.declared.closing.ControlWord.{ControlWord}
use Rattle.frame.specs.declared.set_up.SetUp.{SetUp}
use Rattle.writing.specs.declared.Place.{Place}
use Rattle.writing.specs.declared.Refusal.{Refusal}
use Rattle.writing.specs.Answers.{number_of, values_of}
use Rattle.writing.specs.Laying.{idle_packet, most_left, nothing_of, placed_part}
use Rattle.writing.specs.Writing.{write_table, answer_of, next_of, next_place, output_of, frame_written, laid_field, laid_pointer}

-- a number is given exactly when its cause holds and no earlier one does
abbrev pub NumberExactly : Type 0
NumberExactly = (u : SetUp) (channel : ℕ) (p : Place) (w : Option ControlWord) (run out : List ℕ) (r : Refusal)
    → get_or (values_of (answer_of u channel p run out) (next_of u channel p w run out)) 0 0 ≡ number_of r ↔ First (write_table u channel p run out) r

-- a frame is written exactly when no cause holds
abbrev pub WrittenExactly : Type 0
WrittenExactly = (u : SetUp) (channel : ℕ) (p : Place) (run out : List ℕ) → answer_of u channel p run out ≡ Ok tt ↔ None (write_table u channel p run out)

-- "the offset, left-over and both counts come back as given", and the output is untouched
abbrev pub RefusedUntouched : Type 0
RefusedUntouched = (u : SetUp) (channel : ℕ) (p : Place) (w : Option ControlWord) (run out : List ℕ) (r : Refusal)
    → answer_of u channel p run out ≡ Err r → (next_of u channel p w run out ≡ p) × (output_of u channel p w run out ≡ out)

-- what is written opens under the same set-up, on that channel, with the counts given, around the data field as laid
abbrev pub WrittenOpens : Type 0
WrittenOpens = (u : SetUp) (channel : ℕ) (p : Place) (w : Option ControlWord) (run out : List ℕ)
    → answer_of u channel p run out ≡ Ok tt → p.master.0 < 256 → p.count.0 < 256 → word_number w < 2 ^ 32
    → (open_of u (frame_written u channel p w run)
    ≡ Ok (record {
      header = record {
        spacecraft = u.spacecraft;
        channel = channel;
        flagged = flagged_by w;
        master = p.master;
        count = p.count;
        secondary = false;
        synchronisation = false;
        order = false;
        segment = 3;
        pointer = laid_pointer u w run p;
      };
      word = word_number w;
      place = 6;
      size = close_size u w;
    }))
    × (take (close_size u w) (drop 6 (frame_written u channel p w run)) ≡ laid_field u w run p)

-- the data field is filled, at least one octet of it, and its pointer passes test 12
pub record LaidWell (u : SetUp) (p : Place) (w : Option ControlWord) (run : List ℕ) : Type 0 where
  pub some : 1 ≤ close_size u w
  pub filled : length (laid_field u w run p) ≡ close_size u w
  pub points : Points (laid_pointer u w run p) (close_size u w)
  -- the idle frame is written exactly when nothing at all was placed
  pub nothing : nothing_of run p.offset p.left_over ≡ true ↔ placed_part (close_size u w) run p.offset p.left_over ≡ []

abbrev pub LaidWellLaw : Type 0
LaidWellLaw = (u : SetUp) (channel : ℕ) (p : Place) (w : Option ControlWord) (run out : List ℕ) → answer_of u channel p run out ≡ Ok tt → LaidWell u p w run

-- the value of each item of an idle packet's header: application id 2047, grouping flags 11, the length field, all else 0
abbrev pub idle_value : ℕ → PacketItem → ℕ
idle_value n PacketItem.version = 0
idle_value n PacketItem.type_bit = 0
idle_value n PacketItem.secondary_flag = 0
idle_value n PacketItem.application_id = idle_application
idle_value n PacketItem.grouping_flags = 3
idle_value n PacketItem.sequence_count = 0
idle_value n PacketItem.length_field = n - length_bias

-- "header 07 FF C0 00, its length, and octets 55": these octets are that header, in the one layout of a packet header
abbrev pub IdlePacketLaid : Type 0
IdlePacketLaid = (n : ℕ) → idle_packet n ≡ laid_out packet_header (idle_value n) ++ replicate (n - 6) 0x55

-- the next call may be given what this one returned
pub record GoesOn (u : SetUp) (channel : ℕ) (p : Place) (w : Option ControlWord) (run out : List ℕ) : Type 0 where
  pub next_passes : answer_of u channel (next_place u p w run) run out ≡ Ok tt
  pub not_back : p.offset ≤ (next_place u p w run).offset
  pub inside : (next_place u p w run).offset ≤ length run
  pub few_left : (next_place u p w run).left_over ≤ most_left

abbrev pub GoesOnLaw : Type 0
GoesOnLaw = (u : SetUp) (channel : ℕ) (p : Place) (w : Option ControlWord) (run out : List ℕ) → answer_of u channel p run out ≡ Ok tt → GoesOn u channel p w run out
