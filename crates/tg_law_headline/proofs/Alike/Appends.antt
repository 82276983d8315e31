-- What an append has been told since its command began, or since a number in it: of its token, and how it ended.
use Rattle.std.proofs.Common.{◌≡◌, ℕ, ◌+◌, ◌<◌, ◌≤◌, List, [], ◌∷◌, Bool, true, refl, sym, ap, ◌∙◌, subst, inl, inr, ◌⊎◌, arith, Some, None, Option}
use Rattle.std.specs.Prelude.{◌==◌, ◌&&◌}
use Rattle.tg_base.specs.Layouts.{Layout}
use Rattle.tg_base.specs.Orders.{node_eq}
use Rattle.tg_base.specs.declared.ids.NodeId.{NodeId}
use Rattle.tg_base.specs.declared.marks.StreamLink.{StreamLink}
use Rattle.tg_base.specs.declared.msg.Msg.{Msg}
use Rattle.tg_base.specs.declared.msg.Msg.TheVariants as msg
use Rattle.tg_base.specs.declared.packet.Out.{Out}
use Rattle.tg_entry.specs.declared.entry.Entry.{Entry}
use Rattle.tg_entry.specs.Records.{linked}
use Rattle.tg_protocol.specs.Words.{seqr_id}
use Rattle.tg_protocol.specs.Entries.{streams_of}
use Rattle.tg_protocol.specs.Pages.{page_of}
use Rattle.tg_protocol.specs.Requests.{out, awaits, Next, Goes, Learns, Ends}
use Rattle.tg_protocol.specs.Replies.{Reply, reply, IsIssued, IsTail, IsGone, IsFull, IsWhole}
use Rattle.tg_protocol.specs.Cells.{works, CellJob, CellEnd, Puts, Fills, Gone, place_in, fill_cell, work_asks, cell_asks, work_feed, cell_feed}
use Rattle.tg_protocol.specs.Appending.{Token, Append, AppendWork, Asking, Putting, Judging, AppendEnd, At, Full, Forgotten, AppendTurn, asks_token, append_work_asks, append_asks, append_start, append_feed, append_again}
use Rattle.tg_law_layouts.proofs.Moves.Members.{Has, has_right, found}
use Rattle.tg_law_layouts.proofs.Moves.Draws.{NextDraws}
use Rattle.tg_law_layouts.proofs.Moves.Machines.{cell_feed_draws}
use Rattle.tg_law_steps.proofs.Machines.Appends.{Fed as Turned, Issues, IsFilled, TellsLayout, LearnsEpoch, Nothing, PutGoes, PutDone, PutLost, PutGone, JudgeGoes, JudgeOwn, JudgeOther, JudgeGone, JobLearns, JobFenced, JobPasses, append_fed, Anew, HasNone, IsDead, Settles, append_anew}

-- Messages, by what they say.

pub is_issued : (y : Msg) (p : ℕ) (ls : List StreamLink) → reply y ≡ IsIssued p ls → y ≡ msg.Issued p ls
unfolding reply
is_issued y p ls h = grind arith

pub is_tail : (y : Msg) (t : ℕ) (ls : List StreamLink) → reply y ≡ IsTail t ls → y ≡ msg.Tail t ls
unfolding reply
is_tail y t ls h = grind arith

pub is_full : (y : Msg) (l : ℕ) → reply y ≡ IsFull l → y ≡ msg.Full l
unfolding reply
is_full y l h = grind arith

pub is_gone : (y : Msg) (b : ℕ) → reply y ≡ IsGone b → y ≡ msg.Gone b
unfolding reply
is_gone y b h = grind arith

pub is_whole : (y : Msg) → reply y ≡ IsWhole → y ≡ msg.Whole
unfolding reply
is_whole y h = grind arith

-- an awaited answer's request
pub record Asked (outs : List Out) (from : NodeId) (rid : ℕ) : Type 0 where
  pub of : Out
  pub has : Has outs of
  pub to : of.to ≡ from
  pub number : of.rid ≡ rid

same_node : (a b : NodeId) → node_eq a b ≡ true → a ≡ b
unfolding node_eq
same_node a b h = grind arith

both : (a b : Bool) → (a && b) ≡ true → (a ≡ true) × (b ≡ true)
both a b h = grind arith

same_rid : (a b : ℕ) → (a == b) ≡ true → a ≡ b
same_rid a b h = grind arith

pub asked : (outs : List Out) (from : NodeId) (rid : ℕ) → awaits outs from rid ≡ true → Asked outs from rid
asked outs from rid h =
    let p = found (λ (o : Out). node_eq o.to from && (o.rid == rid)) outs h in
    let t = both (node_eq p.it.to from) (p.it.rid == rid) p.passes in
    record { of = p.it; has = p.has; to = same_node p.it.to from t.0; number = same_rid p.it.rid rid t.1 }

-- A cell's job: each of its requests is numbered past a number, and stays so.

abbrev pub Past : ℕ → CellJob → Type 0
Past n j = (o : Out) → Has (cell_asks j) o → n < o.rid

-- what an answer makes of it
pub record Fed (n next : ℕ) (x : Reply) (end : ℕ) (to : Next CellJob CellEnd) : Type 0 where
  pub up : next ≤ end
  pub goes : (j : CellJob) → to ≡ Goes j → Past n j
  pub gone : (b : ℕ) → to ≡ Ends (Gone b) → x ≡ IsGone b

cell_gone : (j : CellJob) (u : ℕ) (x : Reply) (next b : ℕ) → (cell_feed j u x next).to ≡ Ends (Gone b) → x ≡ IsGone b
unfolding cell_feed work_feed fill_cell
cell_gone j u x next b h = grind arith

pub fed : (n : ℕ) (j : CellJob) (u : ℕ) (x : Reply) (next : ℕ) → n < next → Past n j → Fed n next x (cell_feed j u x next).next (cell_feed j u x next).to
fed n j u x next less past = by (cell_feed j u x next).to refl (cell_feed_draws j u x next)
  where
    by : (to : Next CellJob CellEnd) → (cell_feed j u x next).to ≡ to → NextDraws cell_asks (cell_asks j) next (cell_feed j u x next).besides (cell_feed j u x next).next to → Fed n next x (cell_feed j u x next).next to
    by (Goes k) is d = record { up = d.up; goes = λ i e. later i e; gone = λ b e. absurd (cc) }
      where
        here : (o : Out) → Has (cell_asks j) o ⊎ Has d.new o → n < o.rid
        here o (inl h) = past o h
        here o (inr h) = let f = d.is_new.from o h in omega (arith, less, f)

        same : (a c : CellJob) → ◌≡◌ {A = Next CellJob CellEnd} (Goes a) (Goes c) → a ≡ c
        same a c e = cc

        later : (i : CellJob) → ◌≡◌ {A = Next CellJob CellEnd} (Goes k) (Goes i) → Past n i
        later i e = subst (Past n) (same k i e) (λ o h. here o (d.either o (has_right (cell_feed j u x next).besides (cell_asks k) o h)))
    by (Learns k) is d = record { up = d.0; goes = λ i e. absurd (cc); gone = λ b e. absurd (cc) }
    by (Ends y) is d = record { up = d; goes = λ i e. absurd (cc); gone = λ b e. cell_gone j u x next b (is ∙ e) }

cell_up : (j : CellJob) (u : ℕ) (x : Reply) (next : ℕ) → next ≤ (cell_feed j u x next).next
cell_up j u x next = by (cell_feed j u x next).to (cell_feed_draws j u x next)
  where
    by : (to : Next CellJob CellEnd) → NextDraws cell_asks (cell_asks j) next (cell_feed j u x next).besides (cell_feed j u x next).next to → next ≤ (cell_feed j u x next).next
    by (Goes k) d = d.up
    by (Learns k) d = d.0
    by (Ends e) d = d

-- an append that waits for a token
abbrev asking : Entry → Option Token → ℕ → Append
asking d o r = record { draft = d; token = o; work = Asking r }

module _ (Got : NodeId → ℕ → Msg → Type 0) where
  -- a position was issued by an answer with a number from b on and below an end
  pub record Issued (b end p : ℕ) : Type 0 where
    pub from : NodeId
    pub rid : ℕ
    pub links : List StreamLink
    pub now : b ≤ rid
    pub below : rid < end
    pub got : Got from rid (msg.Issued p links)

  abbrev pub issued_on : (b end later p : ℕ) → end ≤ later → Issued b end p → Issued b later p
  issued_on b end later p le i = record { from = i.from; rid = i.rid; links = i.links; now = i.now; below = let l = i.below in omega (arith, l, le); got = i.got }

  -- the log was told full from that number on
  pub record FullTold (b limit : ℕ) : Type 0 where
    pub from : NodeId
    pub rid : ℕ
    pub now : b ≤ rid
    pub got : Got from rid (msg.Full limit)

  -- after the issue of a position a unit told that it is gone
  pub record GoneTold (b p below : ℕ) : Type 0 where
    pub from : NodeId
    pub rid : ℕ
    pub issued : Issued b rid p
    pub got : Got from rid (msg.Gone below)

  pub record TokenOk (b next p : ℕ) (j : CellJob) : Type 0 where
    pub issued : Issued b next p
    pub later : Past issued.rid j

  abbrev pub JobOk : ℕ → ℕ → Option Token → CellJob → Type 0
  JobOk b next None j = Unit {0}
  JobOk b next (Some t) j = TokenOk b next t.pos j

  abbrev pub NoToken : Option Token → Type 0
  NoToken None = Unit {0}
  NoToken (Some t) = ⊥

  abbrev pub WorkOk : ℕ → ℕ → Option Token → AppendWork → Type 0
  WorkOk b next o (Asking r) = (b ≤ r) × NoToken o
  WorkOk b next o (Putting j) = JobOk b next o j
  WorkOk b next o (Judging j) = JobOk b next o j

  -- the append, where the next number is this
  abbrev pub AppendOk : ℕ → ℕ → Append → Type 0
  AppendOk b next a = WorkOk b next a.token a.work

  job_on : (b next later : ℕ) (o : Option Token) (j : CellJob) → next ≤ later → JobOk b next o j → JobOk b later o j
  job_on b next later None j le k = tt
  job_on b next later (Some t) j le k = record { issued = issued_on b next later t.pos le k.issued; later = k.later }

  pub append_on : (b next later : ℕ) (a : Append) → next ≤ later → AppendOk b next a → AppendOk b later a
  append_on b next later a le k = by a.work k
    where
      by : (w : AppendWork) → WorkOk b next a.token w → WorkOk b later a.token w
      by (Asking r) k = k
      by (Putting j) k = job_on b next later a.token j le k
      by (Judging j) k = job_on b next later a.token j le k

  abbrev pub EndOk : ℕ → ℕ → AppendEnd → Type 0
  EndOk b next (At p d) = Issued b next p
  EndOk b next (Full l) = FullTold b l
  EndOk b next (Forgotten p g) = GoneTold b p g

  abbrev pub NextOk : ℕ → ℕ → Next Append AppendEnd → Type 0
  NextOk b next (Goes a) = AppendOk b next a
  NextOk b next (Learns a) = AppendOk b next a
  NextOk b next (Ends e) = EndOk b next e

  abbrev pub TurnOk : ℕ → ℕ → AppendTurn → Type 0
  TurnOk b next t = (next ≤ t.next) × NextOk b t.next t.to

  asks_ok : (b : ℕ) (d : Entry) (next : ℕ) → b ≤ next → TurnOk b next (asks_token d next)
  asks_ok b d next le = (omega arith, (le, tt))

  pub start_ok : (p : Layout) (b : ℕ) (d : Entry) (next : ℕ) → b ≤ next → TurnOk b next (append_start p d next)
  unfolding append_start
  start_ok p b d next le = asks_ok b d next le

  -- An awaited answer.

  by_rid : (n rid : ℕ) (j : CellJob) → Past n j → (from : NodeId) → Asked (cell_asks j) from rid → n < rid
  by_rid n rid j past from k = let l = past k.of k.has in let e = k.number in omega (arith, l, e)

  asking_rid : (p : Layout) (a : Append) (r : ℕ) (from : NodeId) (rid : ℕ) → Asked (append_work_asks p a (Asking r)) from rid → rid ≡ r
  unfolding append_work_asks
  asking_rid p a r from rid k = by k.of k.has k.number
    where
      by : (o : Out) → Has (out (seqr_id p.seq) r (msg.Token p.epoch (streams_of a.draft)) ∷ []) o → o.rid ≡ rid → rid ≡ r
      by o (inl e) n = sym n ∙ ap (λ (z : Out). z.rid) e
      by o (inr h) n = absurd h

  put_later : (p : Layout) (rid next pos : ℕ) (page : List ℕ) → rid < next → Past rid (works (place_in p pos) (Puts next page 0))
  unfolding work_asks
  put_later p rid next pos page less o (inl e) = let n = ap (λ (z : Out). z.rid) e in omega (arith, n, less)
  put_later p rid next pos page less o (inr h) = absurd h

  module _ (p : Layout) (b n next : ℕ) (from : NodeId) (rid : ℕ) (y : Msg) (got : Got from rid y) (less : rid < next) where
    -- a job on a token's position
    module _ (t : Token) (j : CellJob) (k : TokenOk b next t.pos j) (a : Asked (cell_asks j) from rid) where
      abbrev end : ℕ
      end = (cell_feed j n (reply y) next).next

      job : Fed k.issued.rid next (reply y) (cell_feed j n (reply y) next).next (cell_feed j n (reply y) next).to
      job = fed k.issued.rid j n (reply y) next k.issued.below k.later

      still : Issued b (cell_feed j n (reply y) next).next t.pos
      still = issued_on b next end t.pos job.up k.issued

      asks : (d : Entry) → TurnOk b next (asks_token d (cell_feed j n (reply y) next).next)
      asks d = let u = job.up in let x = k.issued.now in let z = k.issued.below in (omega (arith, u), (omega (arith, u, x, z), tt))

      gone : (g : ℕ) → (cell_feed j n (reply y) next).to ≡ Ends (Gone g) → GoneTold b t.pos g
      gone g e = record {
        from = from;
        rid = rid;
        issued = record { from = k.issued.from; rid = k.issued.rid; links = k.issued.links; now = k.issued.now; below = by_rid k.issued.rid rid j k.later from a; got = k.issued.got };
        got = subst (Got from rid) (is_gone y g (job.gone g e)) got;
      }

    turn_ok : (a : Append) (t : AppendTurn) → Turned p n (reply y) next a t → AppendOk b next a → Asked (append_asks p a) from rid → TurnOk b next t
    unfolding append_work_asks still
    turn_ok _ _ (Issues d o r pos ls is named) ok k = (
      omega arith,
      record {
        issued = record { from = from; rid = rid; links = ls; now = (let l = ok.0 in let e = asking_rid p (asking d o r) r from rid k in omega (arith, l, e)); below = omega (arith, less); got = subst (Got from rid) (is_issued y pos ls is) got };
        later = put_later p rid next pos (page_of (linked d ls)) less;
      },
    )
    turn_ok _ _ (IsFilled d o r l is) ok k =
        (omega arith, record { from = from; rid = rid; now = (let l = ok.0 in let e = asking_rid p (asking d o r) r from rid k in omega (arith, l, e)); got = subst (Got from rid) (is_full y l is) got })
    turn_ok _ _ (TellsLayout d o r e is f g) ok k = (omega arith, append_on b next (next + 1) (asking d o r) (omega arith) ok)
    turn_ok _ _ (LearnsEpoch d o r e is f) ok k = (omega arith, ok)
    turn_ok _ _ (Nothing a) ok k = (omega arith, ok)
    turn_ok _ _ (PutGoes d t j i e) ok k = ((job t j ok k).up, record { issued = still t j ok k; later = (job t j ok k).goes i e })
    turn_ok _ _ (PutDone d t j c e) ok k = ((job t j ok k).up, still t j ok k)
    turn_ok _ _ (PutLost d t j c e) ok k = asks t j ok k d
    turn_ok _ _ (PutGone d t j g e) ok k = ((job t j ok k).up, gone t j ok k g e)
    turn_ok _ _ (JudgeGoes d t j i e) ok k = ((job t j ok k).up, record { issued = still t j ok k; later = (job t j ok k).goes i e })
    turn_ok _ _ (JudgeOwn d t j c e f) ok k = ((job t j ok k).up, still t j ok k)
    turn_ok _ _ (JudgeOther d t j c e f) ok k = asks t j ok k d
    turn_ok _ _ (JudgeGone d t j g e) ok k = ((job t j ok k).up, gone t j ok k g e)
    turn_ok _ _ (JobLearns d t w j i of e) ok k = let u = cell_up j n (reply y) next in (u, append_on b next _ (record { draft = d; token = Some t; work = w }) u ok)
    turn_ok _ _ (JobFenced d t w j u f of e) ok k = let u = cell_up j n (reply y) next in (u, append_on b next _ (record { draft = d; token = Some t; work = w }) u ok)
    turn_ok _ _ (JobPasses d t w j f of e) ok k = let u = cell_up j n (reply y) next in (u, append_on b next _ (record { draft = d; token = Some t; work = w }) u ok)

  pub feed_ok : (p : Layout) (b : ℕ) (a : Append) (n next : ℕ) (from : NodeId) (rid : ℕ) (y : Msg) → AppendOk b next a → Got from rid y → rid < next → Asked (append_asks p a) from rid → TurnOk b next (append_feed p a a.work n (reply y) next)
  feed_ok p b a n next from rid y ok got less k = turn_ok p b n next from rid y got less a _ (append_fed p n (reply y) next a) ok k

  -- In a newer layout.

  token_issued : (b next : ℕ) (t : Token) (w : AppendWork) → WorkOk b next (Some t) w → Issued b next t.pos
  token_issued b next t (Asking r) k = absurd k.1
  token_issued b next t (Putting j) k = k.issued
  token_issued b next t (Judging j) k = k.issued

  fill_later : (p : Layout) (rid next pos : ℕ) → rid < next → Past rid (works (place_in p pos) (Fills next))
  unfolding work_asks
  fill_later p rid next pos less o (inl e) = let n = ap (λ (z : Out). z.rid) e in omega (arith, n, less)
  fill_later p rid next pos less o (inr h) = absurd h

  pub again_ok : (p : Layout) (b : ℕ) (a : Append) (next : ℕ) → b ≤ next → AppendOk b next a → TurnOk b next (append_again p a next)
  again_ok p b a next le ok = by a _ (append_anew p next a) ok
    where
      by : (a : Append) (t : AppendTurn) → Anew p next a t → AppendOk b next a → TurnOk b next t
      by _ _ (HasNone d w) ok = asks_ok b d next le
      by _ _ (IsDead d t w e) ok = asks_ok b d next le
      by _ _ (Settles d t w e) ok = let i = token_issued b next t w ok in (omega arith, record { issued = issued_on b next (next + 1) t.pos (omega arith) i; later = fill_later p i.rid next t.pos i.below })
