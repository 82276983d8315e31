-- Decided layouts in the words of the laws.
use Rattle.std.proofs.Common.{◌≡◌, ◌⊎◌, ℕ, zero, suc, ◌+◌, ◌^◌, ◌<◌, ◌≤◌, [], ◌∷◌, ◌++◌, length, true, ◌&&◌, refl, sym, ap, ◌∙◌, subst, inl, inr, arith, append-nil, Bool}
use Rattle.std.specs.Prelude.{nat_lt}
use Rattle.std.specs.List.{list_all, concat}
use Rattle.tg_base.specs.Layouts.{Layout, IsLayout, is_range}
use Rattle.tg_base.specs.Changes.{Changed}
use Rattle.tg_base.specs.Clusters.{Header, IsHeader, are_chains, are_objects, is_odd_to_seven}
use Rattle.tg_base.specs.Units.{is_within, is_chain, is_distinct}
use Rattle.tg_base.specs.declared.msg.Msg.{Msg}
use Rattle.tg_base.specs.declared.msg.Msg.TheVariants as msg
use Rattle.tg_base.proofs.Exact.{and-left, and-right}
use Rattle.tg_base.proofs.Rules.{IsLayout-from}
use Rattle.tg_kind.specs.Meaning.{Meaning}
use Rattle.tg_proj.specs.Next.{next_layout}
use Rattle.tg_proj.specs.Refusals.{early_refusal, MayFollow}
use Rattle.tg_proj.proofs.Following.{next_keeps_rules}
use Rattle.tg_protocol.specs.Layouts.{first_layout, next_of, change_fault}
use Rattle.tg_protocol.specs.Logs.{by_majority, newest}
use Rattle.tg_protocol.specs.Worlds.{World, latest}
use Rattle.tg_protocol.specs.Runs.{Moves, LawfulCommand, Always, EachLater}
use Rattle.tg_protocol.specs.Chosen.{IsDecided, IsChosen, OneLayout, LatestDecided}
use Rattle.tg_protocol.specs.Following.{Follows, FollowsSome, LayoutsFollow}
use Rattle.tg_law_layouts.specs.Moves.After.{after}
use Rattle.tg_law_layouts.proofs.Moves.Members.{has_contained}
use Rattle.tg_law_layouts.proofs.Moves.Lists.{contained}
use Rattle.tg_law_layouts.proofs.Moves.Moves.{AllGive}
use Rattle.tg_law_layouts.proofs.Moves.Always.{always_lawful, later_lawful, each_later}
use Rattle.tg_law_layouts.proofs.Agreement.Facts.{Proposed}
use Rattle.tg_law_layouts.specs.Layouts.Decisions.{DecidedStays, ReadStays, IsOfDecided, TellsDecided, LayoutsKnown, LayoutsSound}
use Rattle.tg_law_layouts.proofs.Layouts.Tellings.{Won}
use Rattle.tg_law_layouts.proofs.Layouts.Layouts.{Chosen, more, one_chosen, read_stays, has_header, pax}
use Rattle.tg_law_layouts.proofs.Layouts.Standing.{IsKnown, known_grows, Says}
use Rattle.tg_law_layouts.proofs.Layouts.Decided.{lay_holds}
use Rattle.tg_law_layouts.proofs.Layouts.Successions.{Good}
use Rattle.tg_law_layouts.proofs.Layouts.Succeeding.{Any, good_or_first}
use Rattle.tg_law_layouts.proofs.Layouts.Latest.{newest_known, newest_last}

-- The header's layout keeps the rules.

all_one : {X : Type 0} (f : X → Bool) (x : X) → f x ≡ true → list_all f (x ∷ []) ≡ true
all_one f x h = grind arith

-- the part of a header's rules that is on its chains
abbrev counts : Header → Bool
counts h = is_within 1 64 h.units && is_odd_to_seven h.layouts && is_within 1 16 h.seqs && is_within 1 32 h.clients && is_within 1 1000000 h.limit

one_range : (h : Header) → IsHeader h → is_range (record { lo = 0; stripes = h.chains }) ≡ true
one_range h i =
    let c : are_chains h.units h.chains ≡ true = and-right (counts h) (are_chains h.units h.chains) (and-left (counts h && are_chains h.units h.chains) (are_objects h.objects) i) in
    let a : Bool = is_within 1 8 (length h.chains) && list_all is_chain h.chains in
    let b : Bool = list_all (λ u. nat_lt u h.units) (concat h.chains) in
    and-left a b (and-left (a && b) (is_distinct (concat h.chains)) c)

first_rules : (h : Header) → IsHeader h → IsLayout (first_layout h)
first_rules h i =
    IsLayout-from (first_layout h) (record {
      epoch = omega arith;
      gone_units = refl;
      gone_rises = refl;
      some = omega arith;
      few = omega arith;
      ranges = all_one is_range (record { lo = 0; stripes = h.chains }) (one_range h i);
      at_zero = refl;
      in_order = refl;
      below_start = refl;
    })

-- One step.

next_is : (p : Layout) (c : Changed) (by start : ℕ) → next_of p c by start ≡ next_layout p c by start
unfolding next_of
next_is p c by start = refl

fault_is : (p : Layout) (c : Changed) → change_fault p c ≡ early_refusal p c
unfolding change_fault
fault_is p c = refl

module _ (m : Meaning) (h : Header) (xs : Moves m) where
  abbrev w : World m
  w = after m h xs

  abbrev pub K : Layout → Type 0
  K = IsKnown h.layouts (first_layout h) (after m h xs).packets

  -- the parts of a successor
  pub record Made (q : Layout) : Type 0 where
    pub good : Good (after m h xs).packets K Any q
    pub is : q ≡ next_layout good.old good.change q.by q.start
    pub may : MayFollow good.old good.change q.start
    pub epoch : q.epoch ≡ good.old.epoch + 1

  made : (q : Layout) → Good (after m h xs).packets K Any q → Made q
  made q s = record {
    good = s;
    is = s.is ∙ next_is s.old s.change q.by q.start;
    may = record { allowed = sym (fault_is s.old s.change) ∙ s.allowed; later = s.later };
    epoch = ap (λ (x : Layout). x.epoch) (s.is ∙ next_is s.old s.change q.by q.start);
  }

  first_is : first_layout (after m h xs).cluster ≡ first_layout h
  first_is = ap first_layout (has_header m h xs)

  -- what is decided is known
  pub known : (e : ℕ) (q : Layout) → IsDecided m (after m h xs) e q → K q × (q.epoch ≡ e)
  known e q (inl d) = (inl (d.1 ∙ first_is), ap (λ (x : Layout). x.epoch) d.1 ∙ sym d.0)
  known e q (inr d) =
      let c = d.1 in
      let p : Proposed e (after m h xs).packets c.ballot q = record { packet = c.proposal; sent = has_contained _ c.proposal c.sent; is = c.proposes } in
      let i : q.epoch ≡ e = (pax m h xs e).allowed c.ballot q p in
      let most : by_majority (after m h xs).packets h.layouts e c.ballot ≡ true = subst (λ (x : Header). by_majority (after m h xs).packets x.layouts e c.ballot ≡ true) (has_header m h xs) c.accepted in (
        inr (record {
          ballot = c.ballot;
          proposed = subst (λ (n : ℕ). Proposed n (after m h xs).packets c.ballot q) (sym i) p;
          most = subst (λ (n : ℕ). by_majority (after m h xs).packets h.layouts n c.ballot ≡ true) (sym i) most;
        }),
        i,
      )

  chosen : (q : Layout) → Won h.layouts (after m h xs).packets q.epoch q → IsChosen m (after m h xs) q.epoch q
  chosen q v = record {
    ballot = v.ballot;
    proposal = v.proposed.packet;
    sent = contained _ v.proposed.packet v.proposed.sent;
    proposes = v.proposed.is;
    accepted = subst (λ (x : Header). by_majority (after m h xs).packets x.layouts q.epoch v.ballot ≡ true) (sym (has_header m h xs)) v.most;
  }

  module _ (header : IsHeader h) (give : AllGive m (LawfulCommand m) xs) where
    pub first_or : (q : Layout) → K q → (q ≡ first_layout h) ⊎ Made q
    first_or q k = by (good_or_first m h xs give q k)
      where
        by : (q ≡ first_layout h) ⊎ Good (after m h xs).packets K Any q → (q ≡ first_layout h) ⊎ Made q
        by (inl e) = inl e
        by (inr s) = inr (made q s)

    -- layouts keep their rules

    rules_by : (q : Layout) → ((p : Layout) → K p → p.epoch < q.epoch → IsLayout p) → (q ≡ first_layout h) ⊎ Made q → IsLayout q
    rules_by q ih (inl e) = subst IsLayout (sym e) (first_rules h header)
    rules_by q ih (inr s) = subst IsLayout (sym s.is) (next_keeps_rules s.good.old s.good.change q.by q.start (ih s.good.old s.good.known (let e = s.epoch in omega (arith, e))) s.good.lawful s.may)

    rules_at : (n : ℕ) (q : Layout) → K q → q.epoch ≤ n → IsLayout q
    rules_at zero q k le = rules_by q (λ p j less. absurd (omega (arith, less, le))) (first_or q k)
    rules_at (suc n) q k le = rules_by q (λ p j less. rules_at n p j (omega (arith, less, le))) (first_or q k)

    pub rules : (q : Layout) → K q → IsLayout q
    rules q k = rules_at q.epoch q k (omega arith)

    -- starts are below 2 ^ 62

    near_by : (q : Layout) → ((p : Layout) → K p → p.epoch < q.epoch → p.start < 2 ^ 62) → (q ≡ first_layout h) ⊎ Made q → q.start < 2 ^ 62
    near_by q ih (inl e) = let s = ap (λ (x : Layout). x.start) e in omega (arith, s)
    near_by q ih (inr s) = s.good.near (ih s.good.old s.good.known (let e = s.epoch in omega (arith, e)))

    near_at : (n : ℕ) (q : Layout) → K q → q.epoch ≤ n → q.start < 2 ^ 62
    near_at zero q k le = near_by q (λ p j less. absurd (omega (arith, less, le))) (first_or q k)
    near_at (suc n) q k le = near_by q (λ p j less. near_at n p j (omega (arith, less, le))) (first_or q k)

    pub near : (q : Layout) → K q → q.start < 2 ^ 62
    near q k = near_at q.epoch q k (omega arith)

    -- epochs

    pub from_one : (q : Layout) → K q → 1 ≤ q.epoch
    from_one q k = by (first_or q k)
      where
        by : (q ≡ first_layout h) ⊎ Made q → 1 ≤ q.epoch
        by (inl e) = let s = ap (λ (x : Layout). x.epoch) e in omega (arith, s)
        by (inr s) = let e = s.epoch in omega (arith, e)

    pub made_late : (q : Layout) → Made q → 1 < q.epoch
    made_late q s = let e = s.epoch in let f = from_one s.good.old s.good.known in omega (arith, e, f)

    -- what is known is decided
    pub decided_for : (q : Layout) → K q → IsDecided m (after m h xs) q.epoch q
    decided_for q k = by k (first_or q k)
      where
        first : q ≡ first_layout h → IsDecided m (after m h xs) q.epoch q
        first e = inl (ap (λ (x : Layout). x.epoch) e, e ∙ sym first_is)

        by : K q → (q ≡ first_layout h) ⊎ Made q → IsDecided m (after m h xs) q.epoch q
        by (inl e) o = first e
        by (inr v) (inl e) = first e
        by (inr v) (inr s) = inr (made_late q s, chosen q v)

    -- one layout an epoch

    not_first : (q : Layout) → Made q → q.epoch ≡ 1 → ⊥
    not_first q s e = let a = made_late q s in omega (arith, a, e)

    pub once : (p q : Layout) → K p → K q → p.epoch ≡ q.epoch → p ≡ q
    once p q (inl a) (inl b) e = a ∙ sym b
    once p q (inl a) (inr v) e = by (first_or q (inr v))
      where
        by : (q ≡ first_layout h) ⊎ Made q → p ≡ q
        by (inl b) = a ∙ sym b
        by (inr s) = absurd (not_first q s (sym e ∙ ap (λ (x : Layout). x.epoch) a))
    once p q (inr v) (inl b) e = by (first_or p (inr v))
      where
        by : (p ≡ first_layout h) ⊎ Made p → p ≡ q
        by (inl a) = a ∙ sym b
        by (inr s) = absurd (not_first p s (e ∙ ap (λ (x : Layout). x.epoch) b))
    once p q (inr u) (inr v) e =
        one_chosen m h xs [] q.epoch p q
        (record { ballot = u.ballot; proposed = subst (λ (n : ℕ). Proposed n (after m h xs).packets u.ballot p) e u.proposed; accepted = subst (λ (n : ℕ). by_majority (after m h xs).packets h.layouts n u.ballot ≡ true) e u.most })
        (subst (λ (ys : Moves m). Chosen (after m h ys).packets h.layouts q.epoch q) (sym (append-nil xs)) (record { ballot = v.ballot; proposed = v.proposed; accepted = v.most }))

    -- The laws, after these moves.

    one_here : OneLayout m (after m h xs)
    one_here e p q c d = let a = known e p c in let b = known e q d in once p q a.0 b.0 (a.1 ∙ sym b.1)

    latest_is : latest m (after m h xs) ≡ newest (first_layout h) (after m h xs).packets h.layouts
    unfolding latest
    latest_is = ap (λ (x : Header). newest (first_layout x) (after m h xs).packets x.layouts) (has_header m h xs)

    latest_here : LatestDecided m (after m h xs)
    latest_here = record {
      decided = subst (λ (q : Layout). IsDecided m (after m h xs) q.epoch q) (sym latest_is) (decided_for _ (newest_known h.layouts (first_layout h) (after m h xs).packets (pax m h xs)));
      greatest = λ e q d. let a = known e q d in let le = newest_last h.layouts (first_layout h) (after m h xs).packets (pax m h xs) q a.0 in let i = a.1 in let j = ap (λ (x : Layout). x.epoch) latest_is in omega (arith, le, i, j);
    }

    of_decided : (q : Layout) → IsKnown (after m h xs).cluster.layouts (first_layout (after m h xs).cluster) (after m h xs).packets q → IsOfDecided m (after m h xs) q
    of_decided q k = decided_for q (subst (λ (x : Header). IsKnown x.layouts (first_layout x) (after m h xs).packets q) (has_header m h xs) k)

    tells_decided : (x : Msg) → Says (IsKnown (after m h xs).cluster.layouts (first_layout (after m h xs).cluster) (after m h xs).packets) x → TellsDecided m (after m h xs) x
    tells_decided (msg.Latest q) k = of_decided q k
    tells_decided (msg.Decided q) k = of_decided q k
    tells_decided (msg.Learn q) k = of_decided q k
    tells_decided x k = tt

    known_here : LayoutsKnown m (after m h xs)
    known_here = let l = lay_holds m h xs in record {
      clients = λ k. of_decided _ (l.clients k).stand;
      servers = λ i. of_decided _ (l.servers i);
      seqrs = λ s. of_decided _ (l.seqrs s);
      sent = λ x g. tells_decided x.msg (l.sent x (has_contained _ x g));
    }

    sound_here : LayoutsSound m (after m h xs)
    sound_here e q d = let a = known e q d in record { epoch = a.1; rules = rules q a.0; near = near q a.0 }

    follows : (q : Layout) → (g : Good (after m h xs).packets K Any q) → Follows m (after m h xs) g.old q
    follows q g = record {
      change = g.change;
      lawful = g.allowed;
      is = g.is;
      high = g.high;
      were_sealed = λ u c. let s = g.sealed u (has_contained _ u c) in record { packet = s.answer; sent = contained _ s.answer s.answered; from = s.from_unit; says = s.is };
      starts = g.starts;
      has_all = λ j e. let s = g.whole j e in record {
        asked = s.ask;
        answer = s.answer;
        was_asked = contained _ s.ask s.asked;
        was_answered = contained _ s.answer s.answered;
        to = s.to;
        look = s.look;
        from = s.from;
        back = s.back;
        number = s.number;
        whole = s.is;
      };
    }

    follow_here : LayoutsFollow m (after m h xs)
    follow_here e q some d = by (first_or q (known (e + 1) q d).0)
      where
        by : (q ≡ first_layout h) ⊎ Made q → FollowsSome m (after m h xs) e q
        by (inl i) = let a = ap (λ (x : Layout). x.epoch) i in let b = (known (e + 1) q d).1 in absurd (omega (arith, a, b, some))
        by (inr s) =
            let a = s.epoch in
            let b = (known (e + 1) q d).1 in
            let i : s.good.old.epoch ≡ e = omega (arith, a, b) in
            record { before = s.good.old; decided_before = subst (λ (n : ℕ). IsDecided m (after m h xs) n s.good.old) i (decided_for s.good.old s.good.known); follows = follows q s.good }

module _ (m : Meaning) where
  stays_here : (h : Header) (xs ys : Moves m) → IsHeader h → AllGive m (LawfulCommand m) xs → AllGive m (LawfulCommand m) (xs ++ ys) → DecidedStays m (after m h xs) (after m h (xs ++ ys))
  stays_here h xs ys header a b = record { stays = stays; only = λ e p q c d. one_here m h (xs ++ ys) header b e p q (stays e p c) d }
    where
      stays : (e : ℕ) (q : Layout) → IsDecided m (after m h xs) e q → IsDecided m (after m h (xs ++ ys)) e q
      stays e q d =
          let k = known m h xs e q d in
          subst (λ (n : ℕ). IsDecided m (after m h (xs ++ ys)) n q) k.1 (decided_for m h (xs ++ ys) header b q (known_grows h.layouts (first_layout h) (after m h xs).packets (after m h (xs ++ ys)).packets (more m h xs ys) q k.0))

  pub one_layout : Always m (OneLayout m)
  one_layout = always_lawful m (OneLayout m) one_here'
    where
      one_here' : (h : Header) (ms : Moves m) → IsHeader h → AllGive m (LawfulCommand m) ms → OneLayout m (after m h ms)
      one_here' h ms a b = one_here m h ms a b

  pub decided_stays : EachLater m (DecidedStays m)
  decided_stays = later_lawful m (DecidedStays m) stays_here

  pub decided_reading_stays : EachLater m (ReadStays m)
  decided_reading_stays = each_later m (ReadStays m) (read_stays m)

  pub latest_decided : Always m (LatestDecided m)
  latest_decided = always_lawful m (LatestDecided m) (λ h ms a b. latest_here m h ms a b)

  pub layouts_are_known : Always m (LayoutsKnown m)
  layouts_are_known = always_lawful m (LayoutsKnown m) (λ h ms a b. known_here m h ms a b)

  pub layouts_are_sound : Always m (LayoutsSound m)
  layouts_are_sound = always_lawful m (LayoutsSound m) (λ h ms a b. sound_here m h ms a b)

  pub layouts_follow : Always m (LayoutsFollow m)
  layouts_follow = always_lawful m (LayoutsFollow m) (λ h ms a b. follow_here m h ms a b)
