-- Between two rounds: the round that is set is sent by the next ticks, with a ballot above the promises that were heard.
use Rattle.std.proofs.Common.{◌≡◌, ◌⊎◌, ℕ, ◌+◌, ◌*◌, ◌^◌, ◌<◌, ◌≤◌, List, [], ◌∷◌, ◌++◌, Bool, true, false, refl, ap, ◌∙◌, sym, subst, inl, inr, arith, Some, None, Option}
use Rattle.tg_base.specs.Clusters.{Header}
use Rattle.tg_base.specs.declared.ids.Ballot.{Ballot}
use Rattle.tg_base.specs.declared.ids.NodeId.{NodeId}
use Rattle.tg_base.specs.declared.msg.Msg.{Msg}
use Rattle.tg_base.specs.declared.msg.Msg.TheVariants as msg
use Rattle.tg_base.specs.declared.packet.Out.{Out}
use Rattle.tg_kind.specs.Meaning.{Meaning}
use Rattle.tg_protocol.specs.Words.{layout_id, seqr_id, client_id, ballot_lt}
use Rattle.tg_protocol.specs.Requests.{Waits, out, asked_of}
use Rattle.tg_protocol.specs.Reconfiguring.{Later, Voting, ReconfWork, Agreeing, Starting, Reconf, ballot_of, next_epoch, reconf_work_asks, reconf_awaited, reconf_again_asks, later_asks, set_asks, stage_asks, this_or}
use Rattle.tg_law_layouts.proofs.Moves.Members.{Has, has_right}
use Rattle.tg_law_finish.proofs.Finish.Lists.{Each}
use Rattle.tg_law_finish.proofs.Finish.Nets.{Net, on_in, client_of}
use Rattle.tg_law_reconfs.proofs.Votes.{ballot, promised, NotAbove, AskOk, Base}
use Rattle.tg_law_reconfs.proofs.Waits.{unanswered_has, asked_has, asked_long, has_asked}
use Rattle.tg_law_reconfs.proofs.Turns.{Mode, First, Second, Third, live, Begun, SetFor, Heard, Claim, WorkFine, later_waits}
use Rattle.tg_law_reconfs.proofs.Steps.{Busy, InFlight}
use Rattle.tg_law_reconfs.proofs.Ticks.{NotIt, Wait}

above_all : (b p : Ballot) → p.round < b.round → ballot_lt b p ≡ false
above_all b p less = grind (arith, less)

under_round : (b p : Ballot) → ballot_lt b p ≡ false → p.round ≤ b.round
under_round b p e = grind arith

pub some_again : (name : ℕ → NodeId) (y : Msg) (ws : Waits) (i j : ℕ) (ys : List Out) → Has ws (i, j) → this_or (asked_of name y ws) ys ≡ asked_of name y ws
some_again name y [] i j ys has = absurd has
some_again name y (w ∷ ws) i j ys has = refl

module _ (m : Meaning) (h : Header) (stopped : List NodeId) (k epoch servers top round : ℕ) (past : 2 ≤ epoch) (near : epoch < 2 ^ 32) (small : top + 1 < 2 ^ 32) (fits : round ≤ top) (mode : Mode) (rest : ℕ)
    (s : Net m) (n : ℕ) (b : Busy m h stopped k epoch servers top round past near small fits mode rest s [] n) (v : Voting) (at : b.reconf.work ≡ Agreeing v) (begun : b.begun ≡ true) (l : Later) (set : v.later ≡ Some l) where
  fine : WorkFine m h stopped k epoch servers top round mode s true b.reconf.stand (Agreeing v)
  fine = subst (λ (w : ReconfWork). WorkFine m h stopped k epoch servers top round mode s true b.reconf.stand w) at (subst (λ (c : Bool). WorkFine m h stopped k epoch servers top round mode s c b.reconf.stand b.reconf.work) begun b.votes.fine.work)

  heard : (i j : ℕ) → on_in m stopped s (layout_id i) ≡ true → Has (live true (Agreeing v)) (i, j) → Heard m h stopped k epoch servers top round s v i
  heard i j on has = by (subst (λ (w : ReconfWork). InFlight m h stopped k epoch servers top round past near small fits mode rest [] i j ⊎ Rattle.tg_law_reconfs.proofs.Turns.HeardIn m h stopped k epoch servers top round true s w i) at
      (subst (λ (c : Bool). InFlight m h stopped k epoch servers top round past near small fits mode rest [] i j ⊎ Rattle.tg_law_reconfs.proofs.Turns.HeardIn m h stopped k epoch servers top round c s b.reconf.work i) begun
      (b.flight i j on (subst (λ (c : Bool). Has (live c b.reconf.work) (i, j)) (sym begun) (subst (λ (w : ReconfWork). Has (live true w) (i, j)) (sym at) has)))))
    where
      by : InFlight m h stopped k epoch servers top round past near small fits mode rest [] i j ⊎ Heard m h stopped k epoch servers top round s v i → Heard m h stopped k epoch servers top round s v i
      by (inl (inl f)) = absurd f.1
      by (inl (inr f)) = absurd f.1
      by (inr f) = f

  one : (x y : Later) → Some x ≡ Some y → x ≡ y
  one x y e = cc

  -- after the second round the ballot that is set is above all promises of servers that run
  pub tops : (i : ℕ) → mode ≡ Second → on_in m stopped s (layout_id i) ≡ true → (promised m h stopped k epoch servers top round s i).round < l.round
  tops i is on = by (subst (λ (mo : Mode). Claim m h stopped k epoch servers top round mo s true v) is fine.1.1 i on)
    where
      of_heard : Heard m h stopped k epoch servers top round s v i → (promised m h stopped k epoch servers top round s i).round < l.round
      of_heard x = let a = x.above in let e = ap (λ (y : Later). y.round) (one x.later l (sym x.has ∙ set)) in omega (arith, a, e)

      by : NotAbove m h stopped k epoch servers top round s i ⊎ (Heard m h stopped k epoch servers top round s v i ⊎ ((j : ℕ) × Has (live true (Agreeing v)) (i, j))) → (promised m h stopped k epoch servers top round s i).round < l.round
      by (inl x) = let e = under_round (ballot m h stopped k epoch servers top round) (promised m h stopped k epoch servers top round s i) x in let f = (fine.1.0.later l set).1 in omega (arith, e, f)
      by (inr (inl x)) = of_heard x
      by (inr (inr x)) = of_heard (heard i x.0 on x.1)

  -- the round that is set asks all
  pub all_asked : (i : ℕ) → on_in m stopped s (layout_id i) ≡ true → (j : ℕ) × Has (later_waits v.later) (i, j)
  all_asked i on = let x = unanswered_has l.waits i ((fine.1.0.later l set).0.all i (b.there i on)) in (x.0, subst (λ (o : Option Later). Has (later_waits o) (i, x.0)) (sym set) x.1)

  pub second : Claim m h stopped k epoch servers (top + 1) l.round Second s false v
  second = λ i on. inr (inr (all_asked i on))

  pub third : mode ≡ Second → Claim m h stopped k epoch servers (top + 1) l.round Third s false v
  third is = ((λ i on. above_all (ballot m h stopped k epoch servers (top + 1) l.round) (promised m h stopped k epoch servers (top + 1) l.round s i) (tops i is on)), λ e. absurd (not_so e))
    where
      not_so : false ≡ true → ⊥
      not_so e = cc

  -- after the third round none is set
  pub not_third : mode ≡ Third → ⊥
  not_third is = none_some (sym ((subst (λ (mo : Mode). Claim m h stopped k epoch servers top round mo s true v) is fine.1.1).1 refl) ∙ set)
    where
      none_some : None ≡ Some l → ⊥
      none_some e = cc

  pub later_fits : l.round ≤ top + 1
  later_fits = (fine.1.0.later l set).0.fits

  -- The next round.
  module _ (small' : (top + 1) + 1 < 2 ^ 32) (fits' : l.round ≤ top + 1) (next : Mode) (later : ℕ) (is_rest : rest ≡ later + (8 * servers + 2)) (some : 0 < servers)
      (claim : Claim m h stopped k epoch servers (top + 1) l.round next s false v) (layouts : (client_of m h s k).layouts ≡ servers)
      (xs front back : List NodeId) (is : xs ≡ front ++ client_id k ∷ back) (not_front : Each (NotIt m h stopped k epoch servers (top + 1) l.round past near small' fits' next later) front) (not_back : Each (NotIt m h stopped k epoch servers (top + 1) l.round past near small' fits' next later) back) where
    abbrev r : Reconf
    r = b.reconf

    abbrev ask : Msg
    ask = msg.Prepare (next_epoch r) (ballot_of r l.round)

    waits : (j : ℕ) × Has l.waits (0, j)
    waits = unanswered_has l.waits 0 ((fine.1.0.later l set).0.all 0 some)

    again : reconf_again_asks r ≡ asked_of layout_id ask l.waits
    again = ap (λ (w : ReconfWork). this_or (later_asks r w) (reconf_work_asks r w)) at ∙ (ap (λ (o : Option Later). this_or (set_asks r o) (reconf_work_asks r (Agreeing v))) set ∙ some_again layout_id ask l.waits 0 waits.0 (reconf_work_asks r (Agreeing v)) waits.1)

    awaited : reconf_awaited r ≡ stage_asks r v.round v.stage ++ asked_of layout_id ask l.waits
    unfolding reconf_work_asks
    awaited = ap (λ (w : ReconfWork). reconf_work_asks r w ++ later_asks r w) at ∙ ap (λ (o : Option Later). stage_asks r v.round v.stage ++ set_asks r o) set

    set_for : SetFor m h stopped k epoch servers (top + 1) l.round v
    set_for = let f = fine.1.0 in let g = f.later l set in let e = f.is in let less = g.1 in record { own = f.own; later = l; has = set; fine = record { all = g.0.all; long = g.0.long; fits = let x = g.0.fits in omega (arith, x) }; is = refl; above = omega (arith, e, less) }

    own_ballot : ballot_of r l.round ≡ ballot m h stopped k epoch servers (top + 1) l.round
    own_ballot = ap (λ (y : ℕ). record { round = l.round; client = y }) b.votes.fine.me

    base : Base m h stopped k epoch servers (top + 1) l.round s
    base = record {
      on = b.base.on;
      units = b.base.units;
      layouts = λ i. let f = b.base.layouts i in record { latest = f.latest; rounds = let x = f.rounds in omega (arith, x); accepted = f.accepted };
      seqrs = λ i. let f = b.base.seqrs i in record { stands = f.stands; fence = f.fence };
      idle = b.base.idle;
    }

    -- the ticks send it
    pub waits_again : Wait m h stopped k epoch servers (top + 1) l.round past near small' fits' next later xs s [] n
    waits_again = record {
      base = base;
      there = b.there;
      each = tt;
      begun = false;
      reconf = r;
      votes = record {
        work = b.votes.work;
        waits = b.votes.waits;
        hand = b.votes.hand;
        stand = b.votes.stand;
        layouts = layouts;
        fine = record {
          me = b.votes.fine.me;
          layouts = b.votes.fine.layouts;
          work = subst (λ (w : ReconfWork). WorkFine m h stopped k epoch servers (top + 1) l.round next s false r.stand w) (sym at) (fine.0, (set_for, claim));
        };
      };
      nums = record { below = b.nums.below; one = b.nums.one };
      layouts = layouts;
      laterless = subst (λ (w : ReconfWork). Rattle.tg_law_reconfs.proofs.Ticks.Laterless m h stopped k epoch servers (top + 1) l.round past near small' fits' next later false w) (sym at) tt;
      os = asked_of layout_id ask l.waits;
      again = again;
      asks = λ o has. let x = has_asked layout_id ask l.waits o has in (
        subst (λ (z : Out). AskOk m h stopped k epoch servers (top + 1) l.round z.to z.msg) (sym x.is) ((x.num, refl), (fine.0, own_ballot)),
        subst (λ (os : List Out). Has os o) (sym awaited) (has_right (stage_asks r v.round v.stage) (asked_of layout_id ask l.waits) o has),
      );
      covers = λ i j has. (ask, asked_has layout_id ask l.waits i j (subst (λ (o : Option Later). Has (later_waits o) (i, j)) set (subst (λ (w : ReconfWork). Has (live false w) (i, j)) at has)));
      left = servers + servers + 1;
      enough = subst (λ (w : ReconfWork). Rattle.tg_law_reconfs.proofs.Turns.left_of m h stopped k epoch servers (top + 1) l.round false w ≤ servers + servers + 1) (sym at) (omega arith);
      few = let long = asked_long layout_id ask l.waits in let few = (fine.1.0.later l set).0.long in let all = b.few in omega (arith, long, few, all, is_rest);
      front = front;
      back = back;
      is = is;
      not_front = not_front;
      not_back = not_back;
    }

-- A client that waits for its new layout's sequencer sends that request again.
module _ (m : Meaning) (h : Header) (stopped : List NodeId) (k epoch servers top round : ℕ) (past : 2 ≤ epoch) (near : epoch < 2 ^ 32) (small : top + 1 < 2 ^ 32) (fits : round ≤ top) (mode : Mode) (rest : ℕ)
    (s : Net m) (n : ℕ) (b : Busy m h stopped k epoch servers top round past near small fits mode rest s [] n) (i : ℕ) (at : b.reconf.work ≡ Starting i) (stands : b.reconf.stand.epoch ≡ epoch) (later : ℕ) (room : later + (2 * servers + 2) ≤ rest)
    (xs front back : List NodeId) (is : xs ≡ front ++ client_id k ∷ back) (not_front : Each (NotIt m h stopped k epoch servers top round past near small fits Third later) front) (not_back : Each (NotIt m h stopped k epoch servers top round past near small fits Third later) back) where
  abbrev again_r : Reconf
  again_r = b.reconf

  abbrev learn : Out
  learn = out (seqr_id again_r.stand.seq) i (msg.Learn again_r.stand)

  learn_again : reconf_again_asks again_r ≡ learn ∷ []
  unfolding reconf_work_asks
  learn_again = ap (λ (w : ReconfWork). this_or (later_asks again_r w) (reconf_work_asks again_r w)) at

  learn_awaited : reconf_awaited again_r ≡ learn ∷ []
  unfolding reconf_work_asks
  learn_awaited = ap (λ (w : ReconfWork). reconf_work_asks again_r w ++ later_asks again_r w) at

  learn_ok : (o : Out) → Has (learn ∷ []) o → AskOk m h stopped k epoch servers top round o.to o.msg
  learn_ok o (inl e) = subst (λ (z : Out). AskOk m h stopped k epoch servers top round z.to z.msg) (sym e) ((again_r.stand.seq, refl), stands)
  learn_ok o (inr f) = absurd f

  pub starts_again : Wait m h stopped k epoch servers top round past near small fits Third later xs s [] n
  starts_again = record {
    base = b.base;
    there = b.there;
    each = tt;
    begun = true;
    reconf = again_r;
    votes = record {
      work = b.votes.work;
      waits = b.votes.waits;
      hand = b.votes.hand;
      stand = b.votes.stand;
      layouts = b.votes.layouts;
      fine = record { me = b.votes.fine.me; layouts = b.votes.fine.layouts; work = subst (λ (w : ReconfWork). WorkFine m h stopped k epoch servers top round Third s true again_r.stand w) (sym at) stands };
    };
    nums = b.nums;
    layouts = b.votes.layouts;
    laterless = subst (λ (w : ReconfWork). Rattle.tg_law_reconfs.proofs.Ticks.Laterless m h stopped k epoch servers top round past near small fits Third later true w) (sym at) tt;
    os = learn ∷ [];
    again = learn_again;
    asks = λ o has. (learn_ok o has, subst (λ (os : List Out). Has os o) (sym learn_awaited) has);
    covers = λ j l has. absurd (subst (λ (w : ReconfWork). Has (live true w) (j, l)) at has);
    left = 0;
    enough = subst (λ (w : ReconfWork). Rattle.tg_law_reconfs.proofs.Turns.left_of m h stopped k epoch servers top round true w ≤ 0) (sym at) (omega arith);
    few = let all = b.few in omega (arith, all, room);
    front = front;
    back = back;
    is = is;
    not_front = not_front;
    not_back = not_back;
  }
