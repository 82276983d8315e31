-- The numbers of a trim.
use Rattle.std.proofs.Common.{◌≡◌, ℕ, ◌+◌, Bool, true, false, [], ◌∷◌, length, arith}
use Rattle.std.specs.Prelude.{nat_lt}
use Rattle.tg_base.specs.Layouts.{Layout}
use Rattle.tg_base.specs.declared.msg.Msg.{Msg}
use Rattle.tg_protocol.specs.Words.{unit_id}
use Rattle.tg_protocol.specs.Layouts.{units_of}
use Rattle.tg_protocol.specs.Requests.{Waits, without_wait, awaits, passes}
use Rattle.tg_protocol.specs.Replies.{Reply, IsGone, IsFenced, reply}
use Rattle.tg_protocol.specs.Trimming.{Trims, Trimmed, AllTrimmed, trim_asks, trim_start, trims_left, trim_feed, learns_if}
use Rattle.tg_trim.specs.Turns.{trim_fed_if}
use Rattle.tg_reconf.specs.Turns.{all_drawn}
use Rattle.tg_client_state.specs.Numbers.{BeginsNumbers}
use Rattle.tg_client_state.specs.Laws.{TrimNumbers}
use Rattle.tg_client_state.proofs.Steps.{each_below, each_from, others_below, Plain, plain_fits, plain_begins, goes_plain, learns_plain, ends_plain, gone_plain}

begins : (p : Layout) (below n : ℕ) → BeginsNumbers (trim_asks p) n (trim_start p below n)
unfolding trim_start
begins p below n = plain_begins (trim_asks p) n _ (goes_plain (trim_asks p) n (n + length (units_of p)) _ (omega arith) (each_below unit_id _ (units_of p) n)) (each_from unit_id _ (units_of p) n)

stays : (p : Layout) (t : Trims) (n : ℕ) → all_drawn n (trim_asks p t) ≡ true → Plain (trim_asks p) n (passes {E = Trimmed} n t)
stays p t n h = goes_plain (trim_asks p) n n t (omega arith) h

left_plain : (p : Layout) (below : ℕ) (ws : Waits) (n : ℕ) → all_drawn n (trim_asks p (record { below = below; waits = ws })) ≡ true → Plain (trim_asks p) n (trims_left below ws n)
left_plain p below [] n h = ends_plain (trim_asks p) n n AllTrimmed (omega arith)
left_plain p below (w ∷ ws) n h = goes_plain (trim_asks p) n n _ (omega arith) h

learns_if_plain : (b : Bool) (p : Layout) (t : Trims) (n : ℕ) → all_drawn n (trim_asks p t) ≡ true → Plain (trim_asks p) n (learns_if {E = Trimmed} b t n)
learns_if_plain true p t n h = learns_plain (trim_asks p) n n t (omega arith) h
learns_if_plain false p t n h = stays p t n h

feed_plain : (p : Layout) (t : Trims) (u : ℕ) (x : Reply) (n : ℕ) → all_drawn n (trim_asks p t) ≡ true → Plain (trim_asks p) n (trim_feed p t u x n)
unfolding trim_feed
feed_plain p t u (IsGone b) n h = gone_plain (trim_asks p) n b _ (left_plain p t.below (without_wait u t.waits) n (others_below unit_id _ u t.waits n h))
feed_plain p t u (IsFenced e) n h = learns_if_plain (nat_lt p.epoch e) p t n h
feed_plain p t u _ n h = stays p t n h

pub if_plain : (b : Bool) (p : Layout) (t : Trims) (u : ℕ) (m : Msg) (n : ℕ) → all_drawn n (trim_asks p t) ≡ true → Plain (trim_asks p) n (trim_fed_if b p t u m n)
if_plain true p t u m n h = feed_plain p t u (reply m) n h
if_plain false p t u m n h = stays p t n h

pub trim_numbers : TrimNumbers
trim_numbers = record {
  start = begins;
  fed = λ p t from rid m n h. plain_fits (trim_asks p) n _ (if_plain (awaits (trim_asks p t) from rid) p t from.num m n h);
}
