-- What the answers of a sequencer tell.
use Rattle.std.proofs.Common.{◌≡◌, inl, inr, ℕ, ◌<◌, ◌≤◌, Bool, true, false, not, ◌||◌, ◌==◌, nat_lt, nat_le, List, [], ◌∷◌, Option, Some, None, refl, arith}
use Rattle.std.proofs.lemmas.Bool.Decides.{nat_tests}
use Rattle.tg_base.specs.Layouts.{Layout}
use Rattle.tg_base.specs.declared.ids.NodeId.{NodeId}
use Rattle.tg_base.specs.declared.ids.Oid.{Oid}
use Rattle.tg_base.specs.declared.marks.StreamLink.{StreamLink}
use Rattle.tg_base.specs.declared.msg.Msg.{Msg}
use Rattle.tg_base.specs.declared.msg.Msg.TheVariants as msg
use Rattle.tg_base.specs.declared.packet.Out.{Out}
use Rattle.tg_protocol.specs.Cells.{Place, CellJob, CellWork, Puts, Gets, Fills, Copies, Probes, cell_asks, work_asks}
use Rattle.tg_protocol.specs.Replies.{reply}
use Rattle.tg_protocol.specs.Requests.{Waits, asked_of, awaits, drawn_from}
use Rattle.tg_protocol.specs.Words.{unit_id}
use Rattle.tg_protocol.specs.Cells.{cell_feed}
use Rattle.tg_protocol.specs.Sequencers.{SeqrState, SeqrTurn, seqr_step, scan_asks, scanning, scan_fed, fed_if, scan_turn, begun, stand_answer, links_of, issue, on_token, unfenced, own_epoch, on_learn, learn_or_old}
use Rattle.tg_seqr.specs.Laws.{IsReady, IsTrueOf, AreTrueOf, AnswersAreTrue}

abbrev IsTrueTurn : SeqrTurn → Type 0
IsTrueTurn t = AreTrueOf t.now t.sends

-- Requests to units tell nothing.

some_drawn : (b : Bool) (s : SeqrState) (k : ℕ) (o : Out) → IsTrueOf s o.msg → AreTrueOf s (drawn_from k (o ∷ []))
some_drawn b s k o h = grind arith

asked_true : (s : SeqrState) (k : ℕ) (m : Msg) (ws : Waits) → IsTrueOf s m → AreTrueOf s (drawn_from k (asked_of unit_id m ws))
asked_true s k m [] h = tt
asked_true s k m (w ∷ ws) h = grind (arith, asked_true s k m ws h)

work_true : (s : SeqrState) (k : ℕ) (a : Place) (w : CellWork) → AreTrueOf s (drawn_from k (work_asks a w))
unfolding work_asks
work_true s k a (Puts r d i) = some_drawn true s k _ tt
work_true s k a (Gets r) = some_drawn true s k _ tt
work_true s k a (Fills r) = some_drawn true s k _ tt
work_true s k a (Copies r c i) = some_drawn true s k _ tt
work_true s k a (Probes ws) = asked_true s k _ ws tt

job_true : (s : SeqrState) (k : ℕ) (j : Option CellJob) → AreTrueOf s (drawn_from k (scan_asks j))
job_true s k None = tt
job_true s k (Some j) = work_true s k j.place j.work

-- The answers.

at_start : (a b : ℕ) → nat_lt a b ≡ true → a < b
at_start a b h = grind (arith, nat_tests)

past_start : (a b : ℕ) → nat_lt a b ≡ false → b ≤ a
past_start a b h = grind (arith, nat_tests)

full : (a b : ℕ) → nat_le a b ≡ true → a ≤ b
full a b h = grind (arith, nat_tests)

room : (a b : ℕ) → nat_le a b ≡ false → b < a
room a b h = grind (arith, nat_tests)

ready : (s : SeqrState) → nat_lt s.next s.proj.start ≡ false → s.fence ≡ None → IsReady s s.next
ready s h f = record { next = refl; scanned = past_start _ _ h; unfenced = f }

stand_true : (s : SeqrState) (ls : List StreamLink) (b : Bool) → nat_lt s.next s.proj.start ≡ b → s.fence ≡ None → IsTrueOf s (stand_answer s ls b)
stand_true s ls true h f = record { next = refl; start = refl; left = at_start _ _ h }
stand_true s ls false h f = ready s h f

issue_true : (s : SeqrState) (os : List Oid) (from : NodeId) (rid : ℕ) (b : Bool) → nat_le s.limit s.next ≡ b → nat_lt s.next s.proj.start ≡ false → s.fence ≡ None →
    IsTrueTurn (issue s os from rid b)
issue_true s os from rid true h l f = ((ready s l f, refl, full _ _ h), tt)
issue_true s os from rid false h l f =
    let past : s.proj.start ≤ s.next = past_start _ _ l in
    ((record { next = refl; scanned = omega arith; unfenced = f }, past, room _ _ h), tt)

token_true : (s : SeqrState) (os : List Oid) (from : NodeId) (rid : ℕ) (b : Bool) → nat_lt s.next s.proj.start ≡ b → s.fence ≡ None → IsTrueTurn (on_token s os from rid b)
token_true s os from rid true h f = (record { next = refl; start = refl; left = at_start _ _ h }, tt)
token_true s os from rid false h f = issue_true s os from rid (nat_le s.limit s.next) refl h f

by_fence : (x : Option ℕ) (s : SeqrState) (from : NodeId) (rid : ℕ) (t : SeqrTurn) → s.fence ≡ x → (s.fence ≡ None → IsTrueTurn t) → IsTrueTurn (unfenced x s from rid t)
by_fence None s from rid t e h = h e
by_fence (Some y) s from rid t e h = (inr e, tt)

by_epoch : (b : Bool) (s : SeqrState) (from : NodeId) (rid : ℕ) (t : SeqrTurn) → (s.fence ≡ None → IsTrueTurn t) → IsTrueTurn (own_epoch b s from rid t)
by_epoch true s from rid t h = by_fence s.fence s from rid t refl h
by_epoch false s from rid t h = (inl refl, tt)

-- a scan that begins isn't fenced
begun_free : (s : SeqrState) (q : Layout) → (begun s q).fence ≡ None
begun_free s q = grind arith

learn_true : (s : SeqrState) (q : Layout) (from : NodeId) (rid : ℕ) (b : Bool) → IsTrueTurn (on_learn s q from rid b)
learn_true s q from rid true = (stand_true (begun s q) [] _ refl (begun_free s q), job_true (begun s q) s.rids (begun s q).scan)
learn_true s q from rid false = by_fence s.fence s from rid _ refl (λ f. (stand_true s [] _ refl f, tt))

old_true : (s : SeqrState) (q : Layout) (from : NodeId) (rid : ℕ) (b : Bool) → IsTrueTurn (learn_or_old s q from rid b)
old_true s q from rid true = (inl refl, tt)
old_true s q from rid false = learn_true s q from rid (nat_lt s.epoch q.epoch)

fed_true : (b : Bool) (old s : SeqrState) → IsTrueTurn (fed_if b old s)
fed_true true old s = job_true s old.rids s.scan
fed_true false old s = tt

scan_true : (s : SeqrState) (j : Option CellJob) (from : NodeId) (rid : ℕ) (m : Msg) → IsTrueTurn (scan_fed s j from rid m)
scan_true s None from rid m = tt
scan_true s (Some j) from rid m = fed_true (awaits (cell_asks j) from rid) s (scan_turn s (cell_feed j from.num (reply m) s.rids))

pub answers_are_true : AnswersAreTrue
unfolding seqr_step
answers_are_true s from rid (msg.Learn q) = old_true s q from rid (not (q.seq == s.num) || nat_lt q.epoch s.epoch)
answers_are_true s from rid (msg.Token e os) = by_epoch (e == s.epoch) s from rid _ (λ f. token_true s os from rid (scanning s) refl f)
answers_are_true s from rid (msg.Check e os) = by_epoch (e == s.epoch) s from rid _ (λ f. (stand_true s (links_of s.lists os) (scanning s) refl f, tt))
answers_are_true s from rid m = scan_true s s.scan from rid m
