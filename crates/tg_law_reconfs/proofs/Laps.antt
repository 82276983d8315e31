-- Rounds of ticks from the votes on: three end them, and then the client has ended or stands at the new layout.
use Rattle.std.proofs.Common.{◌≡◌, ◌⊎◌, ℕ, zero, suc, ◌+◌, ◌*◌, ◌^◌, ◌<◌, ◌≤◌, List, [], Bool, true, false, eqb, refl, ap, ◌∙◌, sym, subst, inl, inr, arith, Some, None}
use Rattle.tg_base.specs.Layouts.{Layout}
use Rattle.tg_base.specs.Clusters.{Header}
use Rattle.tg_base.specs.declared.ids.NodeId.{NodeId}
use Rattle.tg_base.specs.declared.packet.Packet.{Packet}
use Rattle.tg_kind.specs.Meaning.{Meaning}
use Rattle.tg_protocol.specs.Words.{layout_id, client_id}
use Rattle.tg_protocol.specs.Reconfiguring.{Later, Voting, ReconfWork, Agreeing, Starting, Reconf}
use Rattle.tg_protocol.specs.Clients.{Client, Work, Reconfiguring, Doing}
use Rattle.tg_protocol.specs.Worlds.{World, nodes}
use Rattle.tg_law_finish.proofs.Finish.Finishes.{Once, nodes_once}
use Rattle.tg_law_finish.proofs.Finish.Nets.{Net, net, on_in, Alike, on_alike, alike_if, alike_ticked, unit_of, layout_of, seqr_of, client_of}
use Rattle.tg_law_finish.proofs.Finish.Settles.{Keeps, Ticking}
use Rattle.tg_law_reconfs.proofs.Votes.{tally, tally_more, Base}
use Rattle.tg_law_reconfs.proofs.Turns.{Mode, First, Second, Third, Claim}
use Rattle.tg_law_reconfs.proofs.Steps.{Inv, Idle, Busy, any_step, clients_long}
use Rattle.tg_law_reconfs.proofs.Ticks.{Laterless, Pre, Fresh, Comes, ticking, calm}
use Rattle.tg_law_reconfs.proofs.Between.{second, third, not_third, later_fits, waits_again, starts_again}
use Rattle.tg_law_reconfs.proofs.Rounds.{Folds}

none_some : (l : Later) → None ≡ Some l → ⊥
none_some l e = cc

module _ (m : Meaning) (h : Header) (stopped : List NodeId) (k epoch servers : ℕ) (past : 2 ≤ epoch) (near : epoch < 2 ^ 32) (some : 0 < servers) where
  -- What may be delivered in the rounds that are left: in each the latest layout is asked for, and one request is sent again; a round of votes takes more.
  unfoldable pub laps : ℕ → ℕ
  laps zero = 0
  laps (suc r) = laps r + (2 * servers + 2)

  abbrev pub votes_left : Mode → ℕ
  votes_left First = 12 * servers
  votes_left Second = 6 * servers
  votes_left Third = 0

  one_lap : (r : ℕ) → laps (suc r) ≡ laps r + (2 * servers + 2)
  unfolding laps
  one_lap r = refl

  pub seven_laps : laps 7 ≡ 14 * servers + 14
  unfolding laps
  seven_laps = omega arith

  -- The ballots of a round of ticks after which so many may come: the third round is the last of the votes.
  pub record Ballots (r : ℕ) : Type 0 where
    pub top : ℕ
    pub round : ℕ
    pub small : top + 1 < 2 ^ 32
    pub fits : round ≤ top
    pub mode : Mode
    pub lasts : (mode ≡ Third) ⊎ (((mode ≡ Second) × ((3 ≤ r) × (top + 2 < 2 ^ 32))) ⊎ ((mode ≡ First) × ((4 ≤ r) × (top + 3 < 2 ^ 32))))

  abbrev pub rest_in : (r : ℕ) → Ballots r → ℕ
  rest_in r b = laps r + votes_left b.mode

  abbrev pub Most : Net m → Type 0
  Most s = servers < 2 * tally (λ i. on_in m stopped s (layout_id i)) servers

  -- along a drain
  pub record Along (r : ℕ) (s : Net m) (q : List Packet) (n : ℕ) : Type 0 where
    pub ballots : Ballots r
    pub most : Most s
    pub inv : Inv m h stopped k epoch servers ballots.top ballots.round past near ballots.small ballots.fits ballots.mode (rest_in r ballots) s q n

  -- right after the ticks
  pub record JustSent (r : ℕ) (s : Net m) (q : List Packet) (n : ℕ) : Type 0 where
    pub ballots : Ballots r
    pub most : Most s
    pub fresh : Fresh m h stopped k epoch servers ballots.top ballots.round past near ballots.small ballots.fits ballots.mode (rest_in r ballots) s q n

  -- while these nodes haven't ticked yet
  pub record YetToTick (r : ℕ) (xs : List NodeId) (s : Net m) (q : List Packet) (n : ℕ) : Type 0 where
    pub ballots : Ballots r
    pub most : Most s
    pub pre : Pre m h stopped k epoch servers ballots.top ballots.round past near ballots.small ballots.fits ballots.mode (rest_in r ballots) xs s q n

  -- the client stands at the new layout, and waits for its sequencer
  pub record AtNew (c : Client m) : Type 0 where
    pub work : Work m
    pub waits : c.work ≡ Some work
    pub reconf : Reconf
    pub hand : work.hand ≡ Doing (Reconfiguring reconf)
    pub rid : ℕ
    pub starting : reconf.work ≡ Starting rid
    pub stands : c.stand.epoch ≡ epoch

  abbrev pub End : Net m → ℕ → Type 0
  End s n = ((client_of m h s k).work ≡ None) ⊎ AtNew (client_of m h s k)

  pub most_on : (s t : Net m) → Alike m s t → Most s → Most t
  most_on s t a most =
      let le = tally_more (λ i. on_in m stopped s (layout_id i)) (λ i. on_in m stopped t (layout_id i)) servers (λ i e. on_alike m stopped s t a (layout_id i) ∙ e) in
      omega (arith, le, most)

  keeps : (r : ℕ) → Keeps m k h stopped (Along r)
  keeps r s x q n a =
      let b = a.ballots in
      let y = any_step m h stopped k epoch servers b.top b.round past near b.small b.fits b.mode (rest_in r b) s x q n a.inv in
      record { left = y.left; keeps = record { ballots = b; most = most_on s _ (alike_if m (on_in m stopped s x.to) h s x) a.most; inv = y.keeps }; pays = y.pays }

  ticks : (r : ℕ) → Ticking m k h stopped (JustSent r) (YetToTick r)
  ticks r = record {
    one = λ x xs s q n p on. let b = p.ballots in record {
      ballots = b;
      most = most_on s _ (alike_ticked m h s x.num x.role) p.most;
      pre = (ticking m h stopped k epoch servers b.top b.round past near b.small b.fits b.mode (rest_in r b)).one x xs s q n p.pre on;
    };
    other = λ x xs s q n p off. let b = p.ballots in record {
      ballots = b;
      most = p.most;
      pre = (ticking m h stopped k epoch servers b.top b.round past near b.small b.fits b.mode (rest_in r b)).other x xs s q n p.pre off;
    };
    all = λ s q n p. let b = p.ballots in record {
      ballots = b;
      most = p.most;
      fresh = (ticking m h stopped k epoch servers b.top b.round past near b.small b.fits b.mode (rest_in r b)).all s q n p.pre;
    };
  }

  begins : (r : ℕ) (s : Net m) (q : List Packet) (n : ℕ) → JustSent r s q n → Along r s q n
  begins r s q n a = record { ballots = a.ballots; most = a.most; inv = by a.fresh }
    where
      by : Fresh m h stopped k epoch servers a.ballots.top a.ballots.round past near a.ballots.small a.ballots.fits a.ballots.mode (rest_in r a.ballots) s q n
          → Inv m h stopped k epoch servers a.ballots.top a.ballots.round past near a.ballots.small a.ballots.fits a.ballots.mode (rest_in r a.ballots) s q n
      by (inl i) = inl i
      by (inr y) = inr y.busy

  -- Along a drain no node that answers is past the epoch, and no other client works.
  pub record Low (s : Net m) : Type 0 where
    pub on : on_in m stopped s (client_id k) ≡ true
    pub units : (u : ℕ) → (unit_of m s u).epoch ≤ epoch
    pub layouts : (n : ℕ) → (layout_of m h s n).latest.epoch ≤ epoch
    pub seqrs : (x : ℕ) → (seqr_of m h s x).epoch ≤ epoch
    pub idle : (j : ℕ) → eqb j k ≡ false → on_in m stopped s (client_id j) ≡ true → (client_of m h s j).work ≡ None

  pub low_of : (r : ℕ) (s : Net m) (q : List Packet) (n : ℕ) → Along r s q n → Low s
  low_of r s q n a = by a.inv
    where
      low : Base m h stopped k epoch servers a.ballots.top a.ballots.round s → Low s
      low b = record { on = b.on; units = b.units; layouts = λ n. (b.layouts n).latest; seqrs = λ x. (b.seqrs x).stands; idle = b.idle }

      by : Inv m h stopped k epoch servers a.ballots.top a.ballots.round past near a.ballots.small a.ballots.fits a.ballots.mode (rest_in r a.ballots) s q n → Low s
      by (inl i) = low i.base
      by (inr y) = low y.base

  -- Where nothing is on its way.
  module _ (r : ℕ) (b : Ballots r) (s : Net m) (n : ℕ) (y : Busy m h stopped k epoch servers b.top b.round past near b.small b.fits b.mode (rest_in r b) s [] n) where
    at_new : (i : ℕ) → y.reconf.work ≡ Starting i → y.reconf.stand.epoch ≡ epoch → AtNew (client_of m h s k)
    at_new i at e = record { work = y.votes.work; waits = y.votes.waits; reconf = y.reconf; hand = y.votes.hand; rid = i; starting = at; stands = ap (λ (p : Layout). p.epoch) y.votes.stand ∙ e }

    -- what it has come to
    comes_to : Most s → Comes m h stopped k epoch servers b.top b.round past near b.small b.fits b.mode (rest_in r b) y.begun y.reconf.stand y.reconf.work
    comes_to most = calm m h stopped k epoch servers b.top b.round past near b.small b.fits b.mode (rest_in r b) s most n y

  still : (r : ℕ) (s : Net m) (n : ℕ) → JustSent r s [] n → End s n
  still r s n a = by a.fresh
    where
      by : Fresh m h stopped k epoch servers a.ballots.top a.ballots.round past near a.ballots.small a.ballots.fits a.ballots.mode (rest_in r a.ballots) s [] n → End s n
      by (inl i) = inl i.none
      by (inr y) = come (comes_to r a.ballots s n y.busy a.most)
        where
          come : Comes m h stopped k epoch servers a.ballots.top a.ballots.round past near a.ballots.small a.ballots.fits a.ballots.mode (rest_in r a.ballots) y.busy.begun y.busy.reconf.stand y.busy.reconf.work → End s n
          come (inl x) = inr (at_new r a.ballots s n y.busy x.0 x.1.0 x.1.1)
          come (inr x) =
              let e = subst (λ (w : ReconfWork). Laterless m h stopped k epoch servers a.ballots.top a.ballots.round past near a.ballots.small a.ballots.fits a.ballots.mode (rest_in r a.ballots) true w) x.1.1.0
              (subst (λ (c : Bool). Laterless m h stopped k epoch servers a.ballots.top a.ballots.round past near a.ballots.small a.ballots.fits a.ballots.mode (rest_in r a.ballots) c y.busy.reconf.work) x.0 y.laterless) in
              absurd (none_some x.1.1.1.0 (sym e ∙ x.1.1.1.1))

  -- a client that works asks layout servers in each round
  pub still_none : (r : ℕ) (s : Net m) (n : ℕ) → JustSent r s [] n → (client_of m h s k).work ≡ None
  still_none r s n a = by a.fresh
    where
      by : Fresh m h stopped k epoch servers a.ballots.top a.ballots.round past near a.ballots.small a.ballots.fits a.ballots.mode (rest_in r a.ballots) s [] n → (client_of m h s k).work ≡ None
      by (inl i) = i.none
      by (inr y) = absurd ((y.sent some).1)

  -- where two rounds are left, or fewer, the votes have ended
  pub ends_soon : (r : ℕ) → r ≤ 2 → (s : Net m) (n : ℕ) → Along r s [] n → End s n
  ends_soon r soon s n a = by a.inv
    where
      b : Ballots r
      b = a.ballots

      by : Inv m h stopped k epoch servers b.top b.round past near b.small b.fits b.mode (rest_in r b) s [] n → End s n
      by (inl i) = inl i.none
      by (inr y) = come (comes_to r b s n y a.most)
        where
          come : Comes m h stopped k epoch servers b.top b.round past near b.small b.fits b.mode (rest_in r b) y.begun y.reconf.stand y.reconf.work → End s n
          come (inl x) = inr (at_new r b s n y x.0 x.1.0 x.1.1)
          come (inr x) = over b.lasts
            where
              over : (b.mode ≡ Third) ⊎ (((b.mode ≡ Second) × ((3 ≤ r) × (b.top + 2 < 2 ^ 32))) ⊎ ((b.mode ≡ First) × ((4 ≤ r) × (b.top + 3 < 2 ^ 32)))) → End s n
              over (inl is) = absurd (not_third m h stopped k epoch servers b.top b.round past near b.small b.fits b.mode (rest_in r b) s n y x.1.0 x.1.1.0 x.0 x.1.1.1.0 x.1.1.1.1 is)
              over (inr (inl z)) = let le = z.1.0 in absurd (omega (arith, le, soon))
              over (inr (inr z)) = let le = z.1.0 in absurd (omega (arith, le, soon))

  ends : (s : Net m) (n : ℕ) → Along 0 s [] n → End s n
  ends s n a = ends_soon 0 (omega arith) s n a

  votes_fewer : (x next mode : Mode) → mode ≡ x → votes_left x ≡ votes_left next + 6 * servers → votes_left mode ≡ votes_left next + 6 * servers
  votes_fewer x next mode is e = ap votes_left is ∙ e

  -- The next round.
  module _ (r : ℕ) (w : World m) (n : ℕ) (a : Along (suc r) (net m w) [] n) where
    abbrev now : Ballots (suc r)
    now = a.ballots

    -- no votes are left
    abbrev last : Ballots r
    last = record { top = now.top; round = now.round; small = now.small; fits = now.fits; mode = Third; lasts = inl refl }

    abbrev BusyNow : Type 0
    BusyNow = Busy m h stopped k epoch servers now.top now.round past near now.small now.fits now.mode (rest_in (suc r) now) (net m w) [] n

    once : Base m h stopped k epoch servers now.top now.round (net m w) → Once k (nodes m w)
    once base = nodes_once k m w (clients_long m h stopped k epoch servers now.top now.round past near now.small now.fits now.mode (rest_in (suc r) now) (net m w) base.on)

    idle_again : Idle m h stopped k epoch servers now.top now.round past near now.small now.fits now.mode (rest_in (suc r) now) (net m w) [] n → YetToTick r (nodes m w) (net m w) [] n
    idle_again i = record { ballots = last; most = a.most; pre = inl (record { base = i.base; there = i.there; each = tt; none = i.none; few = let few = i.few in let e = one_lap r in omega (arith, few, e) }) }

    start_again : (y : BusyNow) (i : ℕ) → y.reconf.work ≡ Starting i → y.reconf.stand.epoch ≡ epoch → YetToTick r (nodes m w) (net m w) [] n
    start_again y i at stands =
        let o = once y.base in
        let e = one_lap r in
        record {
          ballots = last;
          most = a.most;
          pre = inr (inr (starts_again m h stopped k epoch servers now.top now.round past near now.small now.fits now.mode (rest_in (suc r) now) (net m w) n y i at stands (rest_in r last) (omega (arith, e)) (nodes m w) o.front o.back o.is o.not_front o.not_back));
        }

    module _ (y : BusyNow) (v : Voting) (at : y.reconf.work ≡ Agreeing v) (begun : y.begun ≡ true) (l : Later) (set : v.later ≡ Some l) where
      abbrev top' : ℕ
      top' = now.top + 1

      fits' : l.round ≤ now.top + 1
      fits' = later_fits m h stopped k epoch servers now.top now.round past near now.small now.fits now.mode (rest_in (suc r) now) (net m w) n y v at begun l set

      vote_again : (next : Mode) (small : top' + 1 < 2 ^ 32) (lasts : (next ≡ Third) ⊎ (((next ≡ Second) × ((3 ≤ r) × (top' + 2 < 2 ^ 32))) ⊎ ((next ≡ First) × ((4 ≤ r) × (top' + 3 < 2 ^ 32))))) → votes_left now.mode ≡ votes_left next + 6 * servers
          → Claim m h stopped k epoch servers top' l.round next (net m w) false v → YetToTick r (nodes m w) (net m w) [] n
      vote_again next small lasts fewer claim =
          let o = once y.base in
          let e = one_lap r in
          record {
            ballots = record { top = top'; round = l.round; small = small; fits = fits'; mode = next; lasts = lasts };
            most = a.most;
            pre = inr (inr (waits_again m h stopped k epoch servers now.top now.round past near now.small now.fits now.mode (rest_in (suc r) now) (net m w) n y v at begun l set small fits' next (laps r + votes_left next) (omega (arith, e, fewer)) some claim y.votes.layouts
                (nodes m w) o.front o.back o.is o.not_front o.not_back));
          }

      set_again : (now.mode ≡ Third) ⊎ (((now.mode ≡ Second) × ((3 ≤ suc r) × (now.top + 2 < 2 ^ 32))) ⊎ ((now.mode ≡ First) × ((4 ≤ suc r) × (now.top + 3 < 2 ^ 32)))) → YetToTick r (nodes m w) (net m w) [] n
      set_again (inl is) = absurd (not_third m h stopped k epoch servers now.top now.round past near now.small now.fits now.mode (rest_in (suc r) now) (net m w) n y v at begun l set is)
      set_again (inr (inl z)) =
          let room = z.1.1 in
          vote_again Third (omega (arith, room)) (inl refl) (votes_fewer Second Third now.mode z.0 (omega arith)) (third m h stopped k epoch servers now.top now.round past near now.small now.fits now.mode (rest_in (suc r) now) (net m w) n y v at begun l set z.0)
      set_again (inr (inr z)) =
          let le = z.1.0 in
          let room = z.1.1 in
          vote_again Second (omega (arith, room)) (inr (inl (refl, (omega (arith, le), omega (arith, room))))) (votes_fewer First Second now.mode z.0 (omega arith)) (second m h stopped k epoch servers now.top now.round past near now.small now.fits now.mode (rest_in (suc r) now) (net m w) n y v at begun l set)

    goes_again : Inv m h stopped k epoch servers now.top now.round past near now.small now.fits now.mode (rest_in (suc r) now) (net m w) [] n → YetToTick r (nodes m w) (net m w) [] n
    goes_again (inl i) = idle_again i
    goes_again (inr y) = come (comes_to (suc r) now (net m w) n y a.most)
      where
        come : Comes m h stopped k epoch servers now.top now.round past near now.small now.fits now.mode (rest_in (suc r) now) y.begun y.reconf.stand y.reconf.work → YetToTick r (nodes m w) (net m w) [] n
        come (inl x) = start_again y x.0 x.1.0 x.1.1
        come (inr x) = set_again y x.1.0 x.1.1.0 x.0 x.1.1.1.0 x.1.1.1.1 now.lasts

  pub folds : Folds m k h stopped Along JustSent YetToTick End
  folds = record { keeps = keeps; ticking = ticks; begins = begins; still = still; again = λ r w n a. goes_again r w n a a.inv; ends = ends }
