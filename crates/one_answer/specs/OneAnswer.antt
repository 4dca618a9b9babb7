-- One answer for each question: any two results that the contract of a public operation allows are equal, with what they leave behind, and but
-- for the parts named so it asks nothing of its arguments. Each field cites the operation's contract itself, as the source states it: its signature
-- (`ended`), and its clauses (`clauses`), from which the facts that they state are read. The function of src/lib.rt has this theorem as its
-- contract; tests/one_answer_test.py holds the fields against the sources.
use Rattle.std.specs.Prelude.{List, ◌≡◌, ℕ, ◌*◌, ◌^◌, ◌<◌}
use mathlib.Core.Path.{refl}
use base.Logic.{emp, sep}
use contract.Lifetimes.{Lfts}
use contract.Monad.{fact}
use denote.Param.{number as of_size}
use denote.Triple.Clauses.{Ended, AtExit, Clauses}
use borrow.Fn.Claims.{AllOf}
use borrow.Fn.Read.{Read, all_models, no_know, r_last, r_top, read_join}
use borrow.Fn.World.{World, Pr, ArgsD, ResD}
use Rattle.channel.specs.declared.state.Record.{Record}
use Rattle.octets.specs.contracts.octet as octet
use Rattle.octets.specs.contracts.octet_across as octet_across
use Rattle.numbers.specs.contracts.number as number
use Rattle.numbers.specs.contracts.put as put
use Rattle.octets.specs.contracts.copy as copy
use Rattle.octets.specs.contracts.fill as fill
use Rattle.octets.specs.contracts.lesser as lesser
use Rattle.crc.specs.contracts.syndrome as syndrome
use Rattle.frame.specs.contracts.set_up.SetUp.fits as set_up_fits
use Rattle.frame.specs.contracts.counts.MasterCount.next as master_next
use Rattle.frame.specs.contracts.counts.ChannelCount.next as channel_next
use Rattle.frame.specs.contracts.counts.ChannelCount.gap as gap
use Rattle.frame.specs.contracts.data_size as data_size
use Rattle.opening.specs.contracts.open as open_frame
use Rattle.frame.specs.contracts.opening.Refusal.number as open_number
use Rattle.frame.specs.contracts.closing.CloseRefusal.number as close_number
use Rattle.closing.specs.contracts.data_size_for as data_size_for
use Rattle.closing.specs.contracts.close as close_frame
use Rattle.packet.specs.contracts.source.Packet.fits as packet_fits
use Rattle.packet.specs.contracts.source.Packet.fits_within as packet_fits_within
use Rattle.packet.specs.contracts.source.Packet.idle as packet_idle
use Rattle.packet.specs.contracts.source.Packet.idle_across as packet_idle_across
use Rattle.packet.specs.contracts.source.Packet.total as packet_total
use Rattle.packet.specs.contracts.source.Packet.size as packet_size
use Rattle.packet.specs.contracts.source.Packet.size_across as packet_size_across
use Rattle.packet.specs.contracts.header.Header.of as packet_header
use Rattle.chain.specs.contracts.front as front
use Rattle.chain.specs.contracts.is_chain as is_chain
use Rattle.chain.specs.contracts.distance as distance
use Rattle.channel.specs.contracts.state.Record.fresh as fresh
use Rattle.channel.specs.contracts.state.Record.busy as busy
use Rattle.channel.specs.contracts.state.Record.busy_count as busy_count
use Rattle.channel.specs.contracts.state.Record.lowest_busy as lowest_busy
use Rattle.channel.specs.contracts.busy_state as busy_state
use Rattle.rules.specs.contracts.follows as follows
use Rattle.channel.specs.contracts.store.Store.fits as store_fits
use Rattle.channel.specs.contracts.store.Store.place as store_place
use Rattle.channel.specs.contracts.store.Output.fits as output_fits
use Rattle.walk.specs.contracts.walk as walk
use Rattle.judging.specs.contracts.none_yet as none_yet
use Rattle.judging.specs.contracts.plain as plain
use Rattle.judging.specs.contracts.called_at as called_at
use Rattle.judging.specs.contracts.agreeing as agreeing
use Rattle.judging.specs.contracts.broken_by as broken_by
use Rattle.judging.specs.contracts.break_off as break_off
use Rattle.judging.specs.contracts.disagreement as disagreement
use Rattle.judging.specs.contracts.carries_none as carries_none
use Rattle.judging.specs.contracts.gap_for as gap_for
use Rattle.gathering.specs.contracts.settle as settle
use Rattle.gathering.specs.contracts.hunt as hunt
use Rattle.gathering.specs.contracts.gather as gather
use Rattle.steps.specs.contracts.steps as steps
use Rattle.reading.specs.contracts.Refusal.number as read_number
use Rattle.accepting.specs.contracts.accept as accept
use Rattle.reader.specs.contracts.read_core as read_core
use Rattle.reader.specs.contracts.read as read
use Rattle.reader.specs.contracts.read_kept as read_kept
use Rattle.writing.specs.contracts.Refusal.number as write_number
use Rattle.laying.specs.contracts.lay as lay_field
use Rattle.laying.specs.contracts.pointer as pointer
use Rattle.writer.specs.contracts.write as write
use Rattle.host.specs.contracts.lay as lay_words
use Rattle.host.specs.contracts.refused_values as refused_values
use Rattle.host.specs.contracts.set_up as set_up
use Rattle.host.specs.contracts.control_word as control_word
use Rattle.host.specs.contracts.flag_word as flag_word
use Rattle.host_words.specs.contracts.unpack as unpack
use Rattle.host_words.specs.contracts.see as see
use Rattle.host_words.specs.contracts.pack as pack
use Rattle.host_answers.specs.contracts.answer_read as answer_read
use Rattle.host_answers.specs.contracts.answer_write as answer_write
use Rattle.host_telemetry.specs.contracts.scowdeck_read as scowdeck_read
use Rattle.host_telemetry.specs.contracts.scowdeck_write as scowdeck_write
use Rattle.host_telemetry.specs.contracts.scowdeck_busy as scowdeck_busy
use Rattle.host_frame.specs.contracts.scowdeck_open as scowdeck_open
use Rattle.host_frame.specs.contracts.scowdeck_close as scowdeck_close
use Rattle.host_frame.specs.contracts.scowdeck_syndrome as scowdeck_syndrome

-- the clauses of a contract of this signature, at each model of the logic
abbrev pub Cited : Ended → Type 2
Cited T = (w : World) → Clauses w.𝓤 T

-- the value of its `ghost` clause: `tt` where it has none
abbrev pub Ghost : (T : Ended) → Cited T → Type 2
Ghost T c = (κs : Lfts T.signature.lifetimes) (a : ArgsD T.signature κs) (w : World) → (c w κs a).ghost

-- The facts that clauses state, with a proof at each model: whoever has the clauses has what they tell, and what they owe gives the clauses.
abbrev pub Reading : ((w : World) → Pr w) → Type 2
Reading clauses = Read (λ w. emp w.𝓤) no_know clauses

-- of a kind of clause that a contract lacks, and of one, two and three clauses of plain facts; a use has the facts from the clauses that it reads
abbrev pub no_clause : Reading (λ w. emp w.𝓤)
no_clause = all_models (λ w. emp w.𝓤) (λ w. r_top) (λ w. refl) (λ w. refl) (λ w. refl)

abbrev pub one_clause : (φ : Type 0) → Reading (λ w. fact w.𝓤 φ)
one_clause φ = all_models (λ w. fact w.𝓤 φ) (λ w. r_last φ) (λ w. refl) (λ w. refl) (λ w. refl)

abbrev pub two_clauses : (φ ψ : Type 0) → Reading (λ w. sep w.𝓤 (fact w.𝓤 φ) (fact w.𝓤 ψ))
two_clauses φ ψ = read_join (λ w. fact w.𝓤 φ) (λ w. fact w.𝓤 ψ) (one_clause φ) (one_clause ψ)

abbrev pub three_clauses : (φ ψ χ : Type 0) → Reading (λ w. sep w.𝓤 (fact w.𝓤 φ) (sep w.𝓤 (fact w.𝓤 ψ) (fact w.𝓤 χ)))
three_clauses φ ψ χ = read_join (λ w. fact w.𝓤 φ) (λ w. sep w.𝓤 (fact w.𝓤 ψ) (fact w.𝓤 χ)) (one_clause φ) (two_clauses ψ χ)

-- and of a function whose result is an array of any length (`const N: usize`), which asks nothing of its arguments: what is to hold of the length,
-- that a number lends nothing and that the array fits the memory
abbrev pub array_clauses : (φ ψ : Type 0) → Reading (λ w. sep w.𝓤 (fact w.𝓤 φ) (sep w.𝓤 (fact w.𝓤 ψ) (emp w.𝓤)))
array_clauses φ ψ = read_join (λ w. fact w.𝓤 φ) (λ w. sep w.𝓤 (fact w.𝓤 ψ) (emp w.𝓤)) (one_clause φ)
    (read_join (λ w. fact w.𝓤 ψ) (λ w. emp w.𝓤) (one_clause ψ) no_clause)

-- what a contract's `requires` ask of the arguments, and what its `ensures` say of the arguments, the result and the parameters at exit
abbrev pub Asks : (T : Ended) (c : Cited T) → Ghost T c → Type 2
Asks T c g = (κs : Lfts T.signature.lifetimes) (a : ArgsD T.signature κs) → Reading (λ w. (c w κs a).requires (g κs a w))

abbrev pub Says : (T : Ended) (c : Cited T) → Ghost T c → Type 2
Says T c g = (κs : Lfts T.signature.lifetimes) (a : ArgsD T.signature κs) (x : ResD T.signature κs) (e : AtExit T κs)
    → Reading (λ w. (c w κs a).ensures (g κs a w) x e)

-- a question with one answer: of the same arguments, any two results that the contract allows are equal
abbrev pub One : (T : Ended) (c : Cited T) (g : Ghost T c) → Says T c g → Type 0
One T c g says = (κs : Lfts T.signature.lifetimes) (a : ArgsD T.signature κs) (x y : ResD T.signature κs) (e d : AtExit T κs)
    → AllOf (says κs a x e).tells → AllOf (says κs a y d).tells → x ≡ y

-- and so is what they leave behind each `&mut`: `left` has these, in the order of the parameters, of which e has the first as .0, the second as
-- .1.0, the third as .1.1.0 and so on
abbrev pub OneLeft : {A : Type 0} (T : Ended) (c : Cited T) (g : Ghost T c) → Says T c g
    → ((κs : Lfts T.signature.lifetimes) → AtExit T κs → A) → Type 0
OneLeft T c g says left = (κs : Lfts T.signature.lifetimes) (a : ArgsD T.signature κs) (x y : ResD T.signature κs) (e d : AtExit T κs)
    → AllOf (says κs a x e).tells → AllOf (says κs a y d).tells → (x ≡ y) × (left κs e ≡ left κs d)

-- an operation that answers for any input: it asks nothing of its arguments, and has one answer
abbrev pub Answers : (T : Ended) (c : Cited T) (g : Ghost T c) → Asks T c g → Says T c g → Type 0
Answers T c g asks says = ((κs : Lfts T.signature.lifetimes) (a : ArgsD T.signature κs) → AllOf (asks κs a).owes) × One T c g says

abbrev pub AnswersLeft : {A : Type 0} (T : Ended) (c : Cited T) (g : Ghost T c) → Asks T c g → Says T c g
    → ((κs : Lfts T.signature.lifetimes) → AtExit T κs → A) → Type 0
AnswersLeft T c g asks says left =
    ((κs : Lfts T.signature.lifetimes) (a : ArgsD T.signature κs) → AllOf (asks κs a).owes) × OneLeft T c g says left

pub record OneAnswer : Type 0 where
  -- octets
  pub lesser : Answers lesser.ended (λ w. lesser.clauses w.𝓛 w.𝓜.mem w.𝓡.returns) (λ κs a w. tt)
      (λ κs a. no_clause) (λ κs a x e. one_clause _)
  -- parts of octets and numbers that ask something of their arguments (decision 15); of numbers, at each n of octets
  pub octet : One octet.ended (λ w. octet.clauses w.𝓛 w.𝓜.mem w.𝓡.returns) (λ κs a w. tt)
      (λ κs a x e. one_clause _)
  pub octet_across : One octet_across.ended (λ w. octet_across.clauses w.𝓛 w.𝓜.mem w.𝓡.returns) (λ κs a w. tt)
      (λ κs a x e. one_clause _)
  pub number : (n : ℕ) → One (number.ended (of_size n)) (λ w. number.clauses (of_size n) w.𝓛 w.𝓜.mem w.𝓡.returns) (λ κs a w. tt)
      (λ κs a x e. one_clause _)
  pub put : (n : ℕ) → OneLeft (put.ended (of_size n)) (λ w. put.clauses (of_size n) w.𝓛 w.𝓜.mem w.𝓡.returns) (λ κs a w. tt)
      (λ κs a x e. one_clause _) (λ κs e. e.0.now)
  pub copy : OneLeft copy.ended (λ w. copy.clauses w.𝓛 w.𝓜.mem w.𝓡.returns) (λ κs a w. tt)
      (λ κs a x e. one_clause _) (λ κs e. e.0.now)
  pub fill : OneLeft fill.ended (λ w. fill.clauses w.𝓛 w.𝓜.mem w.𝓡.returns) (λ κs a w. tt)
      (λ κs a x e. one_clause _) (λ κs e. e.0.now)
  -- crc
  pub syndrome : Answers syndrome.ended (λ w. syndrome.clauses w.𝓛 w.𝓜.mem w.𝓡.returns) (λ κs a w. tt)
      (λ κs a. no_clause) (λ κs a x e. one_clause _)
  -- frame, opening, closing
  pub set_up_fits : Answers set_up_fits.ended (λ w. set_up_fits.clauses w.𝓛 w.𝓜.mem w.𝓡.returns) (λ κs a w. tt)
      (λ κs a. no_clause) (λ κs a x e. one_clause _)
  pub master_next : Answers master_next.ended (λ w. master_next.clauses w.𝓛 w.𝓜.mem w.𝓡.returns) (λ κs a w. tt)
      (λ κs a. no_clause) (λ κs a x e. one_clause _)
  pub channel_next : Answers channel_next.ended (λ w. channel_next.clauses w.𝓛 w.𝓜.mem w.𝓡.returns) (λ κs a w. tt)
      (λ κs a. no_clause) (λ κs a x e. one_clause _)
  pub gap : Answers gap.ended (λ w. gap.clauses w.𝓛 w.𝓜.mem w.𝓡.returns) (λ κs a w. tt)
      (λ κs a. no_clause) (λ κs a x e. one_clause _)
  pub open_frame : Answers open_frame.ended (λ w. open_frame.clauses w.𝓛 w.𝓜.mem w.𝓡.returns) (λ κs a w. tt)
      (λ κs a. no_clause) (λ κs a x e. one_clause _)
  pub open_number : Answers open_number.ended (λ w. open_number.clauses w.𝓛 w.𝓜.mem w.𝓡.returns) (λ κs a w. tt)
      (λ κs a. no_clause) (λ κs a x e. one_clause _)
  pub close_number : Answers close_number.ended (λ w. close_number.clauses w.𝓛 w.𝓜.mem w.𝓡.returns) (λ κs a w. tt)
      (λ κs a. no_clause) (λ κs a x e. one_clause _)
  pub data_size_for : Answers data_size_for.ended (λ w. data_size_for.clauses w.𝓛 w.𝓜.mem w.𝓡.returns) (λ κs a w. tt)
      (λ κs a. no_clause) (λ κs a x e. one_clause _)
  pub close_frame : AnswersLeft close_frame.ended (λ w. close_frame.clauses w.𝓛 w.𝓜.mem w.𝓡.returns) (λ κs a w. tt)
      (λ κs a. no_clause) (λ κs a x e. two_clauses _ _) (λ κs e. e.1.1.1.1.1.1.0.now)
  -- a part of frame that asks something of its arguments (decision 15)
  pub data_size : One data_size.ended (λ w. data_size.clauses w.𝓛 w.𝓜.mem w.𝓡.returns) (λ κs a w. tt)
      (λ κs a x e. one_clause _)
  -- packet, chain
  pub packet_fits : Answers packet_fits.ended (λ w. packet_fits.clauses w.𝓛 w.𝓜.mem w.𝓡.returns) (λ κs a w. tt)
      (λ κs a. no_clause) (λ κs a x e. one_clause _)
  pub packet_fits_within : Answers packet_fits_within.ended (λ w. packet_fits_within.clauses w.𝓛 w.𝓜.mem w.𝓡.returns) (λ κs a w. tt)
      (λ κs a. no_clause) (λ κs a x e. one_clause _)
  pub packet_size : Answers packet_size.ended (λ w. packet_size.clauses w.𝓛 w.𝓜.mem w.𝓡.returns) (λ κs a w. tt)
      (λ κs a. no_clause) (λ κs a x e. one_clause _)
  pub packet_size_across : Answers packet_size_across.ended (λ w. packet_size_across.clauses w.𝓛 w.𝓜.mem w.𝓡.returns) (λ κs a w. tt)
      (λ κs a. no_clause) (λ κs a x e. one_clause _)
  pub front : Answers front.ended (λ w. front.clauses w.𝓛 w.𝓜.mem w.𝓡.returns) (λ κs a w. tt)
      (λ κs a. no_clause) (λ κs a x e. one_clause _)
  pub is_chain : Answers is_chain.ended (λ w. is_chain.clauses w.𝓛 w.𝓜.mem w.𝓡.returns) (λ κs a w. tt)
      (λ κs a. no_clause) (λ κs a x e. one_clause _)
  -- parts of packet and chain that ask something of their arguments (decision 15)
  pub packet_idle : One packet_idle.ended (λ w. packet_idle.clauses w.𝓛 w.𝓜.mem w.𝓡.returns) (λ κs a w. tt)
      (λ κs a x e. one_clause _)
  pub packet_idle_across : One packet_idle_across.ended (λ w. packet_idle_across.clauses w.𝓛 w.𝓜.mem w.𝓡.returns) (λ κs a w. tt)
      (λ κs a x e. one_clause _)
  pub packet_total : One packet_total.ended (λ w. packet_total.clauses w.𝓛 w.𝓜.mem w.𝓡.returns) (λ κs a w. tt)
      (λ κs a x e. one_clause _)
  pub packet_header : One packet_header.ended (λ w. packet_header.clauses w.𝓛 w.𝓜.mem w.𝓡.returns) (λ κs a w. tt)
      (λ κs a x e. one_clause _)
  pub distance : One distance.ended (λ w. distance.clauses w.𝓛 w.𝓜.mem w.𝓡.returns) (λ κs a w. tt)
      (λ κs a x e. one_clause _)
  -- channel, rules
  pub fresh : Answers fresh.ended (λ w. fresh.clauses w.𝓛 w.𝓜.mem w.𝓡.returns) (λ κs a w. tt)
      (λ κs a. no_clause) (λ κs a x e. one_clause _)
  pub busy : Answers busy.ended (λ w. busy.clauses w.𝓛 w.𝓜.mem w.𝓡.returns) (λ κs a w. tt)
      (λ κs a. no_clause) (λ κs a x e. one_clause _)
  pub busy_count : Answers busy_count.ended (λ w. busy_count.clauses w.𝓛 w.𝓜.mem w.𝓡.returns) (λ κs a w. tt)
      (λ κs a. no_clause) (λ κs a x e. one_clause _)
  pub lowest_busy : Answers lowest_busy.ended (λ w. lowest_busy.clauses w.𝓛 w.𝓜.mem w.𝓡.returns) (λ κs a w. tt)
      (λ κs a. no_clause) (λ κs a x e. one_clause _)
  pub busy_state : Answers busy_state.ended (λ w. busy_state.clauses w.𝓛 w.𝓜.mem w.𝓡.returns) (λ κs a w. tt)
      (λ κs a. no_clause) (λ κs a x e. one_clause _)
  pub store_fits : Answers store_fits.ended (λ w. store_fits.clauses w.𝓛 w.𝓜.mem w.𝓡.returns) (λ κs a w. tt)
      (λ κs a. no_clause) (λ κs a x e. one_clause _)
  pub output_fits : Answers output_fits.ended (λ w. output_fits.clauses w.𝓛 w.𝓜.mem w.𝓡.returns) (λ κs a w. tt)
      (λ κs a. no_clause) (λ κs a x e. one_clause _)
  pub follows : Answers follows.ended (λ w. follows.clauses w.𝓛 w.𝓜.mem w.𝓡.returns) (λ κs a w. tt)
      (λ κs a. no_clause) (λ κs a x e. one_clause _)
  -- a part of channel that asks something of its arguments (decision 15)
  pub store_place : One store_place.ended (λ w. store_place.clauses w.𝓛 w.𝓜.mem w.𝓡.returns) (λ κs a w. tt)
      (λ κs a x e. one_clause _)
  -- a part of walk that asks something of its arguments (decision 15)
  pub walk : OneLeft walk.ended (λ w. walk.clauses w.𝓛 w.𝓜.mem w.𝓡.returns) (λ κs a w. tt)
      (λ κs a x e. two_clauses _ _) (λ κs e. e.1.1.1.0.now)
  -- judging
  pub none_yet : Answers none_yet.ended (λ w. none_yet.clauses w.𝓛 w.𝓜.mem w.𝓡.returns) (λ κs a w. tt)
      (λ κs a. no_clause) (λ κs a x e. one_clause _)
  pub plain : Answers plain.ended (λ w. plain.clauses w.𝓛 w.𝓜.mem w.𝓡.returns) (λ κs a w. tt)
      (λ κs a. no_clause) (λ κs a x e. one_clause _)
  pub called_at : Answers called_at.ended (λ w. called_at.clauses w.𝓛 w.𝓜.mem w.𝓡.returns) (λ κs a w. tt)
      (λ κs a. no_clause) (λ κs a x e. one_clause _)
  pub agreeing : Answers agreeing.ended (λ w. agreeing.clauses w.𝓛 w.𝓜.mem w.𝓡.returns) (λ κs a w. tt)
      (λ κs a. no_clause) (λ κs a x e. one_clause _)
  pub broken_by : Answers broken_by.ended (λ w. broken_by.clauses w.𝓛 w.𝓜.mem w.𝓡.returns) (λ κs a w. tt)
      (λ κs a. no_clause) (λ κs a x e. one_clause _)
  pub break_off : Answers break_off.ended (λ w. break_off.clauses w.𝓛 w.𝓜.mem w.𝓡.returns) (λ κs a w. tt)
      (λ κs a. no_clause) (λ κs a x e. one_clause _)
  pub disagreement : Answers disagreement.ended (λ w. disagreement.clauses w.𝓛 w.𝓜.mem w.𝓡.returns) (λ κs a w. tt)
      (λ κs a. no_clause) (λ κs a x e. one_clause _)
  pub carries_none : Answers carries_none.ended (λ w. carries_none.clauses w.𝓛 w.𝓜.mem w.𝓡.returns) (λ κs a w. tt)
      (λ κs a. no_clause) (λ κs a x e. one_clause _)
  pub gap_for : Answers gap_for.ended (λ w. gap_for.clauses w.𝓛 w.𝓜.mem w.𝓡.returns) (λ κs a w. tt)
      (λ κs a. no_clause) (λ κs a x e. one_clause _)
  -- parts of gathering and steps that ask something of their arguments (decision 15)
  pub settle : OneLeft settle.ended (λ w. settle.clauses w.𝓛 w.𝓜.mem w.𝓡.returns) (λ κs a w. tt)
      (λ κs a x e. two_clauses _ _) (λ κs e. e.1.1.0.now)
  pub hunt : OneLeft {A = List ℕ × List ℕ} hunt.ended (λ w. hunt.clauses w.𝓛 w.𝓜.mem w.𝓡.returns) (λ κs a w. tt)
      (λ κs a x e. one_clause _) (λ κs e. (e.1.0.now, e.1.1.0.now))
  pub gather : OneLeft {A = List ℕ × List ℕ} gather.ended (λ w. gather.clauses w.𝓛 w.𝓜.mem w.𝓡.returns) (λ κs a w. tt)
      (λ κs a x e. one_clause _) (λ κs e. (e.1.1.1.0.now, e.1.1.1.1.0.now))
  pub steps : OneLeft {A = List ℕ × List ℕ} steps.ended (λ w. steps.clauses w.𝓛 w.𝓜.mem w.𝓡.returns) (λ κs a w. tt)
      (λ κs a x e. one_clause _) (λ κs e. (e.1.1.1.1.1.0.now, e.1.1.1.1.1.1.0.now))
  -- reading, reader
  pub read_number : Answers read_number.ended (λ w. read_number.clauses w.𝓛 w.𝓜.mem w.𝓡.returns) (λ κs a w. tt)
      (λ κs a. no_clause) (λ κs a x e. one_clause _)
  pub read_core : AnswersLeft {A = List ℕ × List ℕ} read_core.ended (λ w. read_core.clauses w.𝓛 w.𝓜.mem w.𝓡.returns) (λ κs a w. tt)
      (λ κs a. no_clause) (λ κs a x e. one_clause _) (λ κs e. (e.1.1.1.0.now, e.1.1.1.1.0.now))
  pub read : AnswersLeft {A = Record × List ℕ × List ℕ} read.ended (λ w. read.clauses w.𝓛 w.𝓜.mem w.𝓡.returns) (λ κs a w. tt)
      (λ κs a. no_clause) (λ κs a x e. one_clause _) (λ κs e. (e.1.0.now, e.1.1.1.0.now, e.1.1.1.1.0.now))
  pub read_kept : AnswersLeft {A = List ℕ × List ℕ} read_kept.ended (λ w. read_kept.clauses w.𝓛 w.𝓜.mem w.𝓡.returns) (λ κs a w. tt)
      (λ κs a. no_clause) (λ κs a x e. one_clause _) (λ κs e. (e.1.1.1.0.now, e.1.1.1.1.0.now))
  -- a part of accepting that asks something of its arguments (decision 15)
  pub accept : OneLeft {A = List ℕ × List ℕ} accept.ended (λ w. accept.clauses w.𝓛 w.𝓜.mem w.𝓡.returns) (λ κs a w. tt)
      (λ κs a x e. one_clause _) (λ κs e. (e.1.1.1.0.now, e.1.1.1.1.0.now))
  -- writing, writer
  pub write_number : Answers write_number.ended (λ w. write_number.clauses w.𝓛 w.𝓜.mem w.𝓡.returns) (λ κs a w. tt)
      (λ κs a. no_clause) (λ κs a x e. one_clause _)
  pub write : AnswersLeft write.ended (λ w. write.clauses w.𝓛 w.𝓜.mem w.𝓡.returns) (λ κs a w. tt)
      (λ κs a. no_clause) (λ κs a x e. one_clause _) (λ κs e. e.1.1.1.1.1.0.now)
  -- parts of laying that ask something of their arguments (decision 15)
  pub lay_field : OneLeft lay_field.ended (λ w. lay_field.clauses w.𝓛 w.𝓜.mem w.𝓡.returns) (λ κs a w. tt)
      (λ κs a x e. two_clauses _ _) (λ κs e. e.0.now)
  pub pointer : One pointer.ended (λ w. pointer.clauses w.𝓛 w.𝓜.mem w.𝓡.returns) (λ κs a w. tt)
      (λ κs a x e. one_clause _)
  -- host, host_words
  pub lay_words : AnswersLeft lay_words.ended (λ w. lay_words.clauses w.𝓛 w.𝓜.mem w.𝓡.returns) (λ κs a w. tt)
      (λ κs a. no_clause) (λ κs a x e. one_clause _) (λ κs e. e.0.now)
  pub refused_values : (n : ℕ) → n * 4 < 2 ^ 63 → Answers (refused_values.ended (of_size n)) (λ w. refused_values.clauses (of_size n) w.𝓛 w.𝓜.mem w.𝓡.returns) (λ κs a w. tt)
      (λ κs a. array_clauses _ _) (λ κs a x e. one_clause _)
  pub set_up : Answers set_up.ended (λ w. set_up.clauses w.𝓛 w.𝓜.mem w.𝓡.returns) (λ κs a w. tt)
      (λ κs a. no_clause) (λ κs a x e. one_clause _)
  pub control_word : Answers control_word.ended (λ w. control_word.clauses w.𝓛 w.𝓜.mem w.𝓡.returns) (λ κs a w. tt)
      (λ κs a. no_clause) (λ κs a x e. one_clause _)
  pub flag_word : Answers flag_word.ended (λ w. flag_word.clauses w.𝓛 w.𝓜.mem w.𝓡.returns) (λ κs a w. tt)
      (λ κs a. no_clause) (λ κs a x e. one_clause _)
  pub unpack : Answers unpack.ended (λ w. unpack.clauses w.𝓛 w.𝓜.mem w.𝓡.returns) (λ κs a w. tt)
      (λ κs a. no_clause) (λ κs a x e. one_clause _)
  pub see : Answers see.ended (λ w. see.clauses w.𝓛 w.𝓜.mem w.𝓡.returns) (λ κs a w. tt)
      (λ κs a. no_clause) (λ κs a x e. one_clause _)
  -- parts of host_words and host_answers that ask something of their arguments (decision 15)
  pub pack : OneLeft pack.ended (λ w. pack.clauses w.𝓛 w.𝓜.mem w.𝓡.returns) (λ κs a w. tt)
      (λ κs a x e. one_clause _) (λ κs e. e.1.0.now)
  pub answer_read : OneLeft {A = List ℕ × List ℕ} answer_read.ended (λ w. answer_read.clauses w.𝓛 w.𝓜.mem w.𝓡.returns) (λ κs a w. tt)
      (λ κs a x e. three_clauses _ _ _) (λ κs e. (e.1.0.now, e.1.1.0.now))
  pub answer_write : OneLeft answer_write.ended (λ w. answer_write.clauses w.𝓛 w.𝓜.mem w.𝓡.returns) (λ κs a w. tt)
      (λ κs a x e. two_clauses _ _) (λ κs e. e.1.0.now)
  -- host_telemetry, host_frame: the boundary
  pub scowdeck_read : AnswersLeft {A = List ℕ × List ℕ × List ℕ × List ℕ} scowdeck_read.ended (λ w. scowdeck_read.clauses w.𝓛 w.𝓜.mem w.𝓡.returns) (λ κs a w. tt)
      (λ κs a. no_clause) (λ κs a x e. one_clause _) (λ κs e. (e.1.1.1.0.now, e.1.1.1.1.0.now, e.1.1.1.1.1.0.now, e.1.1.1.1.1.1.1.0.now))
  pub scowdeck_write : AnswersLeft {A = List ℕ × List ℕ} scowdeck_write.ended (λ w. scowdeck_write.clauses w.𝓛 w.𝓜.mem w.𝓡.returns) (λ κs a w. tt)
      (λ κs a. no_clause) (λ κs a x e. one_clause _) (λ κs e. (e.1.1.1.1.1.1.1.1.1.1.1.0.now, e.1.1.1.1.1.1.1.1.1.1.1.1.0.now))
  pub scowdeck_busy : AnswersLeft scowdeck_busy.ended (λ w. scowdeck_busy.clauses w.𝓛 w.𝓜.mem w.𝓡.returns) (λ κs a w. tt)
      (λ κs a. no_clause) (λ κs a x e. one_clause _) (λ κs e. e.1.0.now)
  pub scowdeck_open : AnswersLeft scowdeck_open.ended (λ w. scowdeck_open.clauses w.𝓛 w.𝓜.mem w.𝓡.returns) (λ κs a w. tt)
      (λ κs a. no_clause) (λ κs a x e. one_clause _) (λ κs e. e.1.1.1.1.0.now)
  pub scowdeck_close : AnswersLeft scowdeck_close.ended (λ w. scowdeck_close.clauses w.𝓛 w.𝓜.mem w.𝓡.returns) (λ κs a w. tt)
      (λ κs a. no_clause) (λ κs a x e. one_clause _) (λ κs e. e.1.1.1.1.1.1.1.1.1.0.now)
  pub scowdeck_syndrome : Answers scowdeck_syndrome.ended (λ w. scowdeck_syndrome.clauses w.𝓛 w.𝓜.mem w.𝓡.returns) (λ κs a w. tt)
      (λ κs a. no_clause) (λ κs a x e. one_clause _)
