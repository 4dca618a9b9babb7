-- Every contract is an equation with a definition, so that two results it allows are equal.
-- Assumes nothing.
use mathlib.Core.List.{not-mem-nil}
use Rattle.std.proofs.Common.{◌≡◌, refl, ◌∙◌, sym}
use Rattle.one_answer.specs.OneAnswer.{OneAnswer}

-- one thing that both are
both : {A : Type 0} {x y a : A} → x ≡ a → y ≡ a → x ≡ y
both p q = p ∙ sym q

pub one_answer : OneAnswer
one_answer =
    record {
      lesser = (λ κs a. tt, λ κs a x y e d p q. both p q);
      octet = λ κs a x y e d p q. both p.0 q.0;
      octet_across = λ κs a x y e d p q. both p.0 q.0;
      number = λ n κs a x y e d p q. both p.0 q.0;
      put = λ n κs a x y e d p q. (refl, both p q);
      copy = λ κs a x y e d p q. (refl, both p q);
      fill = λ κs a x y e d p q. (refl, both p q);
      syndrome = (λ κs a. tt, λ κs a x y e d p q. both p q);
      set_up_fits = (λ κs a. tt, λ κs a x y e d p q. both p q);
      master_next = (λ κs a. tt, λ κs a x y e d p q. λ i. record { 0 = both p q i });
      channel_next = (λ κs a. tt, λ κs a x y e d p q. λ i. record { 0 = both p q i });
      gap = (λ κs a. tt, λ κs a x y e d p q. both p q);
      open_frame = (λ κs a. tt, λ κs a x y e d p q. both p q);
      open_number = (λ κs a. tt, λ κs a x y e d p q. both p q);
      close_number = (λ κs a. tt, λ κs a x y e d p q. both p q);
      data_size_for = (λ κs a. tt, λ κs a x y e d p q. both p q);
      close_frame = (λ κs a. tt, λ κs a x y e d p q. (both p.0 q.0, both p.1 q.1));
      data_size = λ κs a x y e d p q. both p q;
      packet_fits = (λ κs a. tt, λ κs a x y e d p q. both p q);
      packet_fits_within = (λ κs a. tt, λ κs a x y e d p q. both p q);
      packet_size = (λ κs a. tt, λ κs a x y e d p q. both p q);
      packet_size_across = (λ κs a. tt, λ κs a x y e d p q. both p q);
      front = (λ κs a. tt, λ κs a x y e d p q. both p q);
      is_chain = (λ κs a. tt, λ κs a x y e d p q. both p q);
      packet_idle = λ κs a x y e d p q. both p q;
      packet_idle_across = λ κs a x y e d p q. both p q;
      packet_total = λ κs a x y e d p q. both p.0 q.0;
      packet_header = λ κs a x y e d p q. both p q;
      distance = λ κs a x y e d p q. both p q;
      fresh = (λ κs a. tt, λ κs a x y e d p q. both p q);
      busy = (λ κs a. tt, λ κs a x y e d p q. both p q);
      busy_count = (λ κs a. tt, λ κs a x y e d p q. both p q);
      lowest_busy = (λ κs a. tt, λ κs a x y e d p q. both p q);
      busy_state = (λ κs a. tt, λ κs a x y e d p q. both p q);
      store_fits = (λ κs a. tt, λ κs a x y e d p q. both p q);
      output_fits = (λ κs a. tt, λ κs a x y e d p q. both p q);
      follows = (λ κs a. tt, λ κs a x y e d p q. both p q);
      store_place = λ κs a x y e d p q. both p q;
      none_yet = (λ κs a. tt, λ κs a x y e d p q. both p q);
      plain = (λ κs a. tt, λ κs a x y e d p q. both p q);
      called_at = (λ κs a. tt, λ κs a x y e d p q. both p q);
      agreeing = (λ κs a. tt, λ κs a x y e d p q. both p q);
      broken_by = (λ κs a. tt, λ κs a x y e d p q. both p q);
      break_off = (λ κs a. tt, λ κs a x y e d p q. both p q);
      disagreement = (λ κs a. tt, λ κs a x y e d p q. both p q);
      carries_none = (λ κs a. tt, λ κs a x y e d p q. both p q);
      gap_for = (λ κs a. tt, λ κs a x y e d p q. both p q);
      walk = λ κs a x y e d p q. (both p.0 q.0, both p.1 q.1);
      settle = λ κs a x y e d p q. (both p.0 q.0, both p.1 q.1);
      hunt = λ κs a x y e d p q. (both p.reports q.reports, λ i. (both p.holds q.holds i, both p.hands q.hands i));
      gather = λ κs a x y e d p q. (both p.reports q.reports, λ i. (both p.holds q.holds i, both p.hands q.hands i));
      steps = λ κs a x y e d p q. (both p.reports q.reports, λ i. (both p.holds q.holds i, both p.hands q.hands i));
      read_number = (λ κs a. tt, λ κs a x y e d p q. both p q);
      read_core = (
        λ κs a. tt,
        λ κs a x y e d p q. (
          λ i. record { answer = both p.answers q.answers i; after = both p.record_left q.record_left i },
          λ i. (both p.store_left q.store_left i, both p.output_left q.output_left i),
        ),
      );
      read = (
        λ κs a. tt,
        λ κs a x y e d p q. (
          both p.answers q.answers,
          λ i. (both p.record_left q.record_left i, both p.store_left q.store_left i, both p.output_left q.output_left i),
        ),
      );
      read_kept = (
        λ κs a. tt,
        λ κs a x y e d p q. (
          λ i. record { answer = both p.answers q.answers i; after = both p.record_left q.record_left i },
          λ i. (both p.store_left q.store_left i, both p.output_left q.output_left i),
        ),
      );
      accept = λ κs a x y e d p q. (
        λ i. record { answer = both p.answers q.answers i; after = both p.record_left q.record_left i },
        λ i. (both p.store_left q.store_left i, both p.output_left q.output_left i),
      );
      write_number = (λ κs a. tt, λ κs a x y e d p q. both p q);
      write = (λ κs a. tt, λ κs a x y e d p q. (λ i. record { answer = both p.answers q.answers i; next = both p.goes_on q.goes_on i }, both p.output_left q.output_left));
      lay_field = λ κs a x y e d p q. (λ i. record { offset = both p.0.0 q.0.0 i; left_over = both p.0.1 q.0.1 i }, both p.1 q.1);
      pointer = λ κs a x y e d p q. both p q;
      lay_words = (λ κs a. tt, λ κs a x y e d p q. (refl, both p q));
      refused_values = λ n h. (λ κs a. (λ i m. absurd (not-mem-nil m), h), λ κs a x y e d p q. both p q);
      set_up = (λ κs a. tt, λ κs a x y e d p q. both p q);
      control_word = (λ κs a. tt, λ κs a x y e d p q. both p q);
      flag_word = (λ κs a. tt, λ κs a x y e d p q. both p q);
      unpack = (λ κs a. tt, λ κs a x y e d p q. both p q);
      see = (λ κs a. tt, λ κs a x y e d p q. λ i. record { channels = both p q i });
      pack = λ κs a x y e d p q. (refl, both p q);
      answer_read = λ κs a x y e d p q. (both p.0 q.0, λ i. (both p.1.0 q.1.0 i, both p.1.1 q.1.1 i));
      answer_write = λ κs a x y e d p q. (both p.0 q.0, both p.1 q.1);
      scowdeck_read = (
        λ κs a. tt,
        λ κs a x y e d p q. (
          both p.number q.number,
          λ i. (both p.record_left q.record_left i, both p.store_left q.store_left i, both p.output_left q.output_left i, both p.answer_left q.answer_left i),
        ),
      );
      scowdeck_write = (λ κs a. tt, λ κs a x y e d p q. (both p.number q.number, λ i. (both p.output_left q.output_left i, both p.answer_left q.answer_left i)));
      scowdeck_busy = (λ κs a. tt, λ κs a x y e d p q. (both p.mask q.mask, both p.answer_left q.answer_left));
      scowdeck_open = (λ κs a. tt, λ κs a x y e d p q. (both p.number q.number, both p.answer_left q.answer_left));
      scowdeck_close = (λ κs a. tt, λ κs a x y e d p q. (both p.number q.number, both p.output_left q.output_left));
      scowdeck_syndrome = (λ κs a. tt, λ κs a x y e d p q. both p q);
    }
