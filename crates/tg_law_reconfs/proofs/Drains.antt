-- A drain while a client agrees on a layout: each delivery keeps what it waits for on its way.
use Rattle.std.proofs.Common.{◌≡◌, ◌⊎◌, ℕ, ◌+◌, ◌^◌, ◌<◌, ◌≤◌, List, [], ◌++◌, Bool, true, false, ◌&&◌, refl, ap, ◌∙◌, sym, subst, inl, inr, arith, Some, None, Option}
use Rattle.std.specs.Prelude.{nat_lt}
use Rattle.std.proofs.lemmas.Bool.Decides.{nat_tests}
use Rattle.tg_base.specs.Layouts.{Layout}
use Rattle.tg_base.specs.Clusters.{Header}
use Rattle.tg_base.specs.declared.ids.NodeId.{NodeId}
use Rattle.tg_base.specs.declared.msg.Msg.{Msg}
use Rattle.tg_base.specs.declared.packet.Out.{Out}
use Rattle.tg_base.specs.Orders.{node_eq}
use Rattle.tg_kind.specs.Meaning.{Meaning}
use Rattle.tg_protocol.specs.Words.{layout_id}
use Rattle.tg_protocol.specs.Requests.{out, awaits, drawn_from, Next, Goes, Learns, Ends}
use Rattle.tg_protocol.specs.Replies.{Reply, IsLatest, reply}
use Rattle.tg_protocol.specs.Reconfiguring.{ReconfWork, Reconf, ReconfEnd, Installed, Overtaken, NotWhole, ReconfTurn, reconf_asks, reconf_awaited, later_asks, reconf_feed, reconf_latest}
use Rattle.tg_protocol.specs.Clients.{Client, Work, Hand, Reconfiguring, Doing}
use Rattle.tg_protocol.specs.Answers.{moved}
use Rattle.tg_protocol.specs.ClientSteps.{ClientTurn, called, given, client_deliver, client_asks, task_asks, hand_asks, feed, reply_feed, hand_feed, fed_if, latest_if, on_newer, task_in, task_feed, after_turn, on_reconf, reconf_to}
use Rattle.tg_protocol.specs.ClientSteps as steps
use Rattle.tg_law_layouts.proofs.Moves.Clients.{reserved, work_reserved, hand_reserved}
use Rattle.tg_law_layouts.proofs.Moves.Draws.{Drawn}
use Rattle.tg_law_layouts.proofs.Moves.Members.{Has, has_left, has_right}
use Rattle.tg_law_finish.proofs.Finish.Nets.{Net, on_in}
use Rattle.tg_law_finish.proofs.Finish.Tasks.{none_drawn}
use Rattle.tg_law_reconfs.proofs.Votes.{contrary, promised, TellOk, LatestLow}
use Rattle.tg_law_reconfs.proofs.Waits.{each_has}
use Rattle.tg_law_reconfs.proofs.Turns.{Mode, live, left_of, HeardIn, ReconfFine, Onward, To}
use Rattle.tg_law_reconfs.proofs.Answering.{node_same, layout_itself, live_awaited, fed_turn, latest_turn}

both_parts : (a b : Bool) → (a && b) ≡ true → (a ≡ true) × (b ≡ true)
both_parts a b e = grind arith

both_true : (a b : Bool) → a ≡ true → b ≡ true → (a && b) ≡ true
both_true a b e f = grind (arith, e, f)

is_less : (a b : ℕ) → nat_lt a b ≡ true → a < b
is_less a b e = grind arith

less_is : (a b : ℕ) → a < b → nat_lt a b ≡ true
less_is a b less = grind (arith, nat_tests, less)

module _ (m : Meaning) (h : Header) (stopped : List NodeId) (k epoch servers top round : ℕ) where
  -- the numbers of a client's requests
  pub record Nums (c : Client m) : Type 0 where
    pub below : (o : Out) → Has (reserved m c) o → o.rid < c.next
    pub one : (o q : Out) → Has (reserved m c) o → Has (reserved m c) q → o.rid ≡ q.rid → o.to ≡ q.to → o.msg ≡ q.msg

  pub record Renumbered (c d : Client m) : Type 0 where
    pub nums : Nums d
    pub up : c.next ≤ d.next
    pub back : (o : Out) → Has (reserved m d) o → o.rid < c.next → Has (reserved m c) o

  pub renumbered : (c d : Client m) (sent : List Out) → Nums c → Drawn (reserved m c) c.next (sent ++ reserved m d) d.next → Renumbered c d
  renumbered c d sent n x = record {
    nums = record { below = λ o has. let up = x.up in below o (x.either o (has_right sent (reserved m d) o has)) up; one = λ o q f g e t. one o q (x.either o (has_right sent (reserved m d) o f)) (x.either q (has_right sent (reserved m d) q g)) e t };
    up = x.up;
    back = λ o has less. back o less (x.either o (has_right sent (reserved m d) o has));
  }
    where
      below : (o : Out) → Has (reserved m c) o ⊎ Has x.new o → c.next ≤ d.next → o.rid < d.next
      below o (inl f) up = let g = n.below o f in omega (arith, g, up)
      below o (inr f) up = x.is_new.below o f

      one : (o q : Out) → Has (reserved m c) o ⊎ Has x.new o → Has (reserved m c) q ⊎ Has x.new q → o.rid ≡ q.rid → o.to ≡ q.to → o.msg ≡ q.msg
      one o q (inl f) (inl g) e t = n.one o q f g e t
      one o q (inr f) (inr g) e t = x.is_new.one o q f g e
      one o q (inl f) (inr g) e t = let a = n.below o f in let b = x.is_new.from q g in absurd (omega (arith, a, b, e))
      one o q (inr f) (inl g) e t = let a = n.below q g in let b = x.is_new.from o f in absurd (omega (arith, a, b, e))

      back : (o : Out) → o.rid < c.next → Has (reserved m c) o ⊎ Has x.new o → Has (reserved m c) o
      back o less (inl f) = f
      back o less (inr f) = let b = x.is_new.from o f in absurd (omega (arith, less, b))

  module _ (mode : Mode) where
    -- the client votes on
    pub record Votes (s : Net m) (b : Bool) (c : Client m) (r : Reconf) : Type 0 where
      pub work : Work m
      pub waits : c.work ≡ Some work
      pub hand : work.hand ≡ Doing (Reconfiguring r)
      pub stand : c.stand ≡ r.stand
      pub layouts : c.layouts ≡ servers
      pub fine : ReconfFine m h stopped k epoch servers top round mode s b r

    pub reserves : (s : Net m) (b : Bool) (c : Client m) (r : Reconf) → Votes s b c r → reserved m c ≡ reconf_awaited r
    reserves s b c r v = ap (λ (w : Option (Work m)). work_reserved m c.stand w) v.waits ∙ ap (λ (d : Hand m). hand_reserved m c.stand d) v.hand

    asks_are : (s : Net m) (b : Bool) (c : Client m) (r : Reconf) → Votes s b c r → client_asks m c ≡ reconf_asks r
    unfolding client_asks task_asks
    asks_are s b c r v = ap (λ w. steps.work_asks m c.stand w) v.waits ∙ ap (λ d. hand_asks m c.stand d) v.hand

    module _ (s : Net m) (small : top + 1 < 2 ^ 32) (fits : round ≤ top) (there : (i : ℕ) → on_in m stopped s (layout_id i) ≡ true → i < servers) (rounds : (i : ℕ) → (promised m h stopped k epoch servers top round s i).round ≤ top)
        (b : Bool) (c : Client m) (r : Reconf) (v : Votes s b c r) (nums : Nums c) (a : NodeId) (rid : ℕ) (on : on_in m stopped s a ≡ true) where
      abbrev OnwardFrom : Reconf → Type 0
      OnwardFrom x = Onward m h stopped k epoch servers top round mode s a rid (live b r.work) (λ i. HeardIn m h stopped k epoch servers top round b s r.work i) (left_of m h stopped k epoch servers top round b r.work) c.next x

      -- what a delivery comes to
      pub data Comes (t : ClientTurn m) : Type 0 where
        Over : t.now.work ≡ None → t.sends ≡ [] → Comes t
        Same : t.now ≡ called m c → t.sends ≡ [] → ((i j : ℕ) → Has (live b r.work) (i, j) → a ≡ layout_id i → rid ≡ j → ⊥) → Comes t
        On : (x : Reconf) (o : OnwardFrom x) → Votes s true t.now x → t.sends ≡ o.new → Comes t

      to_given : (t : ReconfTurn) (to : Next Reconf ReconfEnd) → To m h stopped k epoch servers top round mode s a rid (live b r.work) (λ i. HeardIn m h stopped k epoch servers top round b s r.work i) (left_of m h stopped k epoch servers top round b r.work) c.next to
          → Comes (given m c (reconf_to m (after_turn m c t) v.work to))
      unfolding client_asks task_asks
      to_given t (Goes x) o = On x o (record { work = _; waits = refl; hand = refl; stand = refl; layouts = v.layouts; fine = o.fine }) o.drawn
      to_given t (Learns x) o = absurd o
      to_given t (Ends (Installed e p)) o = Over refl refl
      to_given t (Ends (Overtaken e p)) o = Over refl refl
      to_given t (Ends (NotWhole u i p)) o = Over refl refl

      below : (o : Out) → Has (reconf_awaited r) o → o.rid < c.next
      below o has = nums.below o (subst (λ (os : List Out). Has os o) (sym (reserves s b c r v)) has)

      no_new : drawn_from c.next (client_asks m c) ≡ []
      no_new = ap (λ (os : List Out). drawn_from c.next os) (asks_are s b c r v) ∙ none_drawn (reconf_asks r) c.next (each_has _ (reconf_asks r) (λ o has. below o (has_left (reconf_asks r) (later_asks r r.work) o has)))

      same_given : ((i j : ℕ) → Has (live b r.work) (i, j) → a ≡ layout_id i → rid ≡ j → ⊥) → Comes (given m c (moved m c []))
      same_given off = Same refl no_new off

      abbrev AllTold : Reply → Type 0
      AllTold x = (y : Msg) → Has (reconf_awaited r) (out a rid y) → TellOk m h stopped k epoch servers top round s a y x

      awaited_at : (i j : ℕ) → Has (live b r.work) (i, j) → a ≡ layout_id i → rid ≡ j → (y : Msg) × Has (reconf_awaited r) (out a rid y)
      awaited_at i j has e f =
          let x = live_awaited m h stopped k epoch servers top round b r r.work i j has in
          (x.0, subst (λ (n : NodeId). Has (reconf_awaited r) (out n rid x.0)) (sym e) (subst (λ (n : ℕ). Has (reconf_awaited r) (out (layout_id i) n x.0)) (sym f) x.1))

      -- an answer that tells no layout
      fed_case : (x : Reply) (c' : Bool) → awaits (reconf_awaited r) a rid ≡ c' → AllTold x → ((q : Layout) → x ≡ IsLatest q → ⊥) → Comes (given m c (fed_if m c' c v.work (Reconfiguring r) a rid x))
      unfolding task_feed
      fed_case x true e all plain =
          let y = Rattle.tg_law_reconfs.proofs.Answering.awaited_one (reconf_awaited r) a rid e in
          to_given (reconf_feed r r.work a.num rid x c.next) (reconf_feed r r.work a.num rid x c.next).to (fed_turn m h stopped k epoch servers top round mode s small fits there rounds b r v.fine a rid c.next on below x all plain y.0 y.1)
      fed_case x false e all plain = same_given (λ i j has f g. let z = awaited_at i j has f g in
          contrary (subst (λ (n : NodeId). awaits (reconf_awaited r) n rid ≡ true) (sym f) (Rattle.tg_law_reconfs.proofs.Answering.awaits_layout (reconf_awaited r) i rid z.0 (subst (λ (n : NodeId). Has (reconf_awaited r) (out n rid z.0)) f z.1))) e)

      hand_case : (x : Reply) (d : Hand m) → d ≡ Doing (Reconfiguring r) → AllTold x → ((q : Layout) → x ≡ IsLatest q → ⊥) → Comes (given m c (hand_feed m c v.work d a rid x))
      hand_case x d e all plain = subst (λ (y : Hand m). Comes (given m c (hand_feed m c v.work y a rid x))) (sym e) (fed_case x (awaits (reconf_awaited r) a rid) refl all plain)

      newer_case : (q : Layout) (d : Hand m) → d ≡ Doing (Reconfiguring r) → r.stand.epoch < q.epoch → q.epoch ≤ epoch → a ≡ layout_id a.num → Comes (given m c (on_newer m c v.work (task_in m d) a.num rid q))
      newer_case q d e less le from = subst (λ (y : Hand m). Comes (given m c (on_newer m c v.work (task_in m y) a.num rid q))) (sym e)
          (to_given (reconf_latest r r.work a.num rid q c.next) (reconf_latest r r.work a.num rid q c.next).to (latest_turn m h stopped k epoch servers top round mode s small fits there rounds b r v.fine a rid c.next on below q less le from))

      -- a told layout that isn't newer answers nothing that is waited for
      old_told : (w : ReconfWork) (q : Layout) (i j : ℕ) → r.work ≡ w → Has (live b w) (i, j) → a ≡ layout_id i → rid ≡ j → AllTold (IsLatest q) → (node_eq a (layout_id a.num) && nat_lt c.stand.epoch q.epoch) ≡ false → ⊥
      old_told w q i j at has e f all old = absurd (Rattle.tg_law_reconfs.proofs.Answering.latest_answers m h stopped k epoch servers top round mode s small fits there rounds b r v.fine a rid c.next on below w q i j at has e f all
          (λ is. contrary (both_true _ _ (subst (λ (n : NodeId). node_eq n (layout_id n.num) ≡ true) (sym e) (layout_itself i)) (less_is c.stand.epoch q.epoch (let g = ap (λ (p : Layout). p.epoch) v.stand in omega (arith, is, g)))) old))

      latest_case : (q : Layout) (c' : Bool) → (node_eq a (layout_id a.num) && nat_lt c.stand.epoch q.epoch) ≡ c' → q.epoch ≤ epoch → AllTold (IsLatest q) → Comes (given m c (latest_if m c' c v.work a rid q))
      latest_case q true e le all =
          let f = both_parts _ _ e in
          let less = is_less c.stand.epoch q.epoch f.1 in
          newer_case q v.work.hand v.hand (let g = ap (λ (p : Layout). p.epoch) v.stand in omega (arith, less, g)) le (node_same a (layout_id a.num) f.0)
      latest_case q false e le all = same_given (λ i j has f g. old_told r.work q i j refl has f g all e)

      reply_case : (x : Reply) → LatestLow m h stopped k epoch servers top round x → AllTold x → Comes (given m c (reply_feed m c v.work a rid x))
      reply_case (IsLatest q) low all = latest_case q _ refl low all
      reply_case x low all = hand_case x v.work.hand v.hand all (λ q e. cc)

      pub comes : (y : Msg) → LatestLow m h stopped k epoch servers top round (reply y) → AllTold (reply y) → Comes (client_deliver m c a rid y)
      unfolding client_deliver
      comes y low all = subst (λ (o : Option (Work m)). Comes (given m c (feed m c o a rid (reply y)))) (sym v.waits) (reply_case (reply y) low all)
