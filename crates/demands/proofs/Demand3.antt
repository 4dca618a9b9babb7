-- Demand 3: along every history that keeps to the demand's conditions, each arrival hands out exactly what is due in it, and all
-- of them together exactly the packets that arrived whole.
-- Assumes nothing.
use mathlib.Core.Path.{◌≡◌, refl, ap}
use mathlib.Core.Bool.{Bool, true, false}
use mathlib.Core.List.{List, [], ◌∷◌, ◌++◌}
use mathlib.Core.Logic.{inl}
use Prim.Native.Nat.{ℕ, ◌+◌, ◌*◌, ◌<◌}
use native.Mathlib.Omega.{arith}
use lib.ListN.{length, get_or, replicate, get_or-replicate}
use Rattle.octets.specs.Octets.{Octets}
use Rattle.packet.specs.Family.{Family, AllWhole}
use Rattle.packet.specs.Size.{most, source}
use Rattle.walk.proofs.SourceLaws.{source_roomy}
use Rattle.walk.specs.Theorems.{Roomy}
use Rattle.frame.specs.declared.set_up.SetUp.{SetUp}
use Rattle.channel.specs.Rules.{record_follows}
use Rattle.channel.specs.State.{fresh_channel, fresh_record}
use Rattle.channel.specs.declared.state.Channel.{Channel}
use Rattle.channel.specs.declared.state.Record.{Record}
use Rattle.channel.proofs.Laws.{fresh_follows}
use Rattle.reading.specs.Reading.{record_over, store_over}
use Rattle.demands.specs.Demand3.{Demand3Over, Demand3General, Demand3, Demand3FreshOver, Demand3Fresh}
use Rattle.demands.specs.Demand3.{Demand3TogetherGeneral, Demand3Together, Demand3TogetherFreshOver, Demand3TogetherFresh}
use Rattle.demands.specs.History.{Event, Allowed, Delivers, carried}
use Rattle.demands.specs.History.Event.{lost, arrives, other}
use Rattle.demands.specs.History.Lent.{both, with_store, with_record}
use Rattle.demands.specs.Sender.{Sends, stream_of}
use Rattle.demands.proofs.HandsOut.{handed_together}
use Rattle.demands.proofs.Hears.Reads.{unheard}
use Rattle.demands.proofs.History.{Kept, after_lost, arrival_calls, arrival_keeps, other_keeps, record_keeps, store_keeps}
use Rattle.demands.proofs.Spot.Lost.{lost_free}

module _ {F : Family} {limit : ℕ} (G : Roomy F limit) (u : SetUp) (v : ℕ) (tail : List ℕ) (ps : List (List ℕ)) (w : AllWhole F ps) (h : v < 8) where
  along : (es : List Event) (fs : List (List ℕ)) (rec : Record) (store : List ℕ) (heard : Bool) (missing : ℕ) (came : List Bool)
      → Kept F limit u v tail ps rec store heard missing came fs → Allowed F limit u v rec store heard missing fs es
      → Delivers F limit u tail ps rec store came fs es
  along [] fs rec store heard missing came k a = tt
  along (lost ∷ es) [] rec store heard missing came k a = tt
  along (lost ∷ es) (f ∷ fs) rec store heard missing came k a =
      along es fs rec store heard (missing + 1) (came ++ replicate (carried u f) false) (after_lost G w k) a
  along (arrives out ∷ es) [] rec store heard missing came k a = tt
  along (arrives out ∷ es) (f ∷ fs) rec store heard missing came k a = (
    arrival_calls G w k a.1 out a.0,
    along es fs (record_over F limit u rec store out f) (store_over F limit u rec store out f) true 0 (came ++ replicate (carried u f) true)
        (arrival_keeps G w k a.1 out a.0) a.2,
  )
  along (other u' both out f ∷ es) fs rec store heard missing came k a =
      along es fs (record_over F limit u' rec store out f) (store_over F limit u' rec store out f) heard missing came
      (other_keeps G k u' out f h a.0 a.1) a.2
  along (other u' (with_store s) out f ∷ es) fs rec store heard missing came k a =
      along es fs (record_over F limit u' rec s out f) store heard missing came (record_keeps G k u' s out f a.0) a.1
  along (other u' (with_record r) out f ∷ es) fs rec store heard missing came k a =
      along es fs rec (store_over F limit u' r store out f) heard missing came (store_keeps G k u' r out f a.0) a.1

-- where the history begins, with this channel unheard
pub kept_first : {F : Family} {limit : ℕ} (u : SetUp) (v count : ℕ) (tail : List ℕ) (ps fs : List (List ℕ)) (rec : Record) (store : List ℕ)
    → Sends u v count (stream_of tail ps) fs → length rec.channels ≡ 8 → length store ≡ limit * 8 → Octets store
    → record_follows F limit store rec ≡ true → (get_or rec.channels v fresh_channel).heard ≡ false → Kept F limit u v tail ps rec store false 0 [] fs
unfolding stream_of
kept_first u v count tail ps fs rec store s eight whole octets follows fresh =
    record {
      count = count;
      rest = stream_of tail ps;
      to_come = tail;
      behind = ps;
      sends = s;
      rest_is = refl;
      fine = record { eight = eight; store_whole = whole; octets = octets; follows = follows };
      reads = unheard fresh refl (lost_free (record { done = []; split = refl; place = omega arith; over = inl refl }));
    }

pub fresh_unheard : (v : ℕ) → v < 8 → (get_or fresh_record.channels v fresh_channel).heard ≡ false
fresh_unheard v h = ap (λ (c : Channel). c.heard) (get_or-replicate 8 v fresh_channel fresh_channel h)

-- for every family that keeps the laws of one, and every limit that is wide enough
pub demand3_general : Demand3General
demand3_general F limit G u v count tail ps fs rec store es w s h eight whole octets follows fresh a =
    along G u v tail ps w h es fs rec store false 0 [] (kept_first u v count tail ps fs rec store s eight whole octets follows fresh) a

pub from_fresh : (F : Family) (limit : ℕ) → Demand3Over F limit → Demand3FreshOver F limit
from_fresh F limit d u v count tail ps fs store es w s h whole octets a =
    d u v count tail ps fs fresh_record store es w s h refl whole octets (fresh_follows F limit store) (fresh_unheard v h) a

-- the one instance: source packets of up to 4,096 octets
pub demand3 : Demand3
demand3 = demand3_general source most source_roomy

pub demand3_fresh : Demand3Fresh
demand3_fresh = from_fresh source most demand3

-- the whole history: what the calls hand out together
pub demand3_together_general : Demand3TogetherGeneral
demand3_together_general F limit G u v count tail ps fs rec store es w s h eight whole octets follows fresh a =
    handed_together F G.laws limit u tail ps w fs rec store es
    (demand3_general F limit G u v count tail ps fs rec store es w s h eight whole octets follows fresh a)

pub demand3_together : Demand3Together
demand3_together = demand3_together_general source most source_roomy

-- from a fresh record
pub together_fresh : (F : Family) (limit : ℕ) → Roomy F limit → Demand3TogetherFreshOver F limit
together_fresh F limit G u v count tail ps fs store es w s h whole octets a =
    handed_together F G.laws limit u tail ps w fs fresh_record store es
    (from_fresh F limit (demand3_general F limit G) u v count tail ps fs store es w s h whole octets a)

pub demand3_together_fresh : Demand3TogetherFresh
demand3_together_fresh = together_fresh source most source_roomy
