-- A command that trims: a sync and walks, and then all units of the layout are asked at once. Each answers by its new floor.
use Rattle.std.proofs.Common.{◌≡◌, ◌⊎◌, ℕ, ◌+◌, ◌-◌, ◌<◌, ◌≤◌, List, [], ◌∷◌, ◌++◌, length, map, true, false, refl, ap, ◌∙◌, sym, subst, inl, inr, arith, eqb, append-nil}
use Rattle.std.specs.Prelude.{slice_set, slice_index_or, max}
use Rattle.std.proofs.lemmas.Bool.Decides.{nat_tests}
use Rattle.tg_base.specs.Layouts.{Layout}
use Rattle.tg_base.specs.Clusters.{Header}
use Rattle.tg_base.specs.declared.ids.NodeId.{NodeId}
use Rattle.tg_base.specs.declared.msg.Msg.{Msg}
use Rattle.tg_base.specs.declared.msg.Msg.TheVariants as msg
use Rattle.tg_base.specs.declared.packet.Out.{Out}
use Rattle.tg_kind.specs.Meaning.{Meaning}
use Rattle.tg_protocol.specs.Words.{unit_id, client_id, too_far}
use Rattle.tg_protocol.specs.Layouts.{units_of}
use Rattle.tg_protocol.specs.Units.{UnitState, new_unit, says, trimmed, in_epoch, on_trim, unit_step, unit_ask, on_ask}
use Rattle.tg_protocol.specs.Requests.{out, drawn_from, Waits, waits_for, asked_of, met_gone}
use Rattle.tg_protocol.specs.Replies.{reply}
use Rattle.tg_protocol.specs.Trimming.{trim_start, trims_left, trim_feed}
use Rattle.tg_protocol.specs.Clients.{Task, Trimming, Doing, Work, Client}
use Rattle.tg_protocol.specs.Answers.{Moved, trim_begun}
use Rattle.tg_protocol.specs.ClientSteps.{task_asks, client_asks, given, called, client_deliver, task_feed, on_trims, ClientTurn}
use Rattle.tg_protocol.specs.Worlds.{packet_of, answer_to}
use Rattle.tg_law_layouts.proofs.Moves.Members.{Has}
use Rattle.tg_law_finish.proofs.Finish.Appends.{is_latest, gone_near}
use Rattle.tg_law_finish.proofs.Finish.Askers.{Kind, Distinct}
use Rattle.tg_law_finish.proofs.Finish.Askings.{Reads, EndsWalks, reads_talk}
use Rattle.tg_law_finish.proofs.Finish.AtOnce.{long_asked, all_drawn, all_below, without_first, nest, each_mid, each_to, all_away, first_awaited}
use Rattle.tg_law_finish.proofs.Finish.Joined.{StageOf, ExitOf, Roomy, RoomyExit, roomy, Either, joined_of, any_fair}
use Rattle.tg_law_finish.proofs.Finish.Lines.{Item, Ask, Tell, asks, Busied, Again, IsOver, Over, TalkOf, Told, Goes}
use Rattle.tg_law_finish.proofs.Finish.Lists.{Each, set_index}
use Rattle.tg_law_finish.proofs.Finish.Nets.{Net, unit_of, client_of, on_alike, unit_alike}
use Rattle.tg_law_finish.proofs.Finish.Others.{Keeps, Ready}
use Rattle.tg_law_finish.proofs.Finish.Places.{UnitServes, AllServe, keeps_unit}
use Rattle.tg_law_finish.proofs.Finish.Probes.{AskedOnce, each_waits, all_once, waits_some, waits_long}
use Rattle.tg_law_finish.proofs.Finish.Reached.{NearFloor}
use Rattle.tg_law_finish.proofs.Finish.Stores.{with_unit}
use Rattle.tg_law_finish.proofs.Finish.Tasks.{TaskShape, none_drawn, shape_called, shape_ticked, again_is, busied, task_fed}
use Rattle.tg_law_finish.proofs.Finish.Trimmers.{Trims', TrimEnds, TrimAsks, trimming_way}
use Rattle.tg_law_finish.proofs.Finish.Writers.{over_asks, unit_no_client}

-- a unit that was asked has trimmed so far
abbrev pub HasTrimmed : Type 0
HasTrimmed = (ℕ × ℕ) × ℕ

abbrev pub waits_of : List HasTrimmed → Waits
waits_of ts = map (λ (t : HasTrimmed). t.0) ts

-- their answers
abbrev pub gones : List HasTrimmed → List Item
gones ts = map (λ (t : HasTrimmed). Tell (unit_id t.0.0) t.0.1 (msg.Gone t.1)) ts

abbrev IsNear : HasTrimmed → Type 0
IsNear t = too_far t.1 ≡ false

pub near_most : (a b : ℕ) → too_far a ≡ false → too_far b ≡ false → too_far (max a b) ≡ false
near_most a b e f = grind (arith, nat_tests, e, f)

both_waits : (xs : List HasTrimmed) (t : HasTrimmed) → waits_of xs ++ t.0 ∷ [] ≡ waits_of (xs ++ t ∷ [])
both_waits [] t = refl
both_waits (x ∷ xs) t = ap (λ (l : Waits). x.0 ∷ l) (both_waits xs t)

near_both : (xs : List HasTrimmed) (t : HasTrimmed) → Each IsNear xs → IsNear t → Each IsNear (xs ++ t ∷ [])
near_both [] t a b = (b, tt)
near_both (x ∷ xs) t a b = (a.0, near_both xs t a.1 b)

-- its answer comes behind
told_behind : (xs : List Item) (ts : List HasTrimmed) (t : HasTrimmed) → (xs ++ gones ts) ++ Tell (unit_id t.0.0) t.0.1 (msg.Gone t.1) ∷ [] ≡ xs ++ gones (ts ++ t ∷ [])
told_behind [] [] t = refl
told_behind [] (x ∷ ts) t = ap (λ (l : List Item). Tell (unit_id x.0.0) x.0.1 (msg.Gone x.1) ∷ l) (told_behind [] ts t)
told_behind (x ∷ xs) ts t = ap (λ (l : List Item). x ∷ l) (told_behind xs ts t)

only_asks : (xs os : List Out) (ts : List HasTrimmed) → asks xs ++ gones ts ≡ asks os → (ts ≡ []) × (xs ≡ os)
only_asks [] [] [] e = (refl, refl)
only_asks [] [] (t ∷ ts) e = absurd cc
only_asks [] (o ∷ os) [] e = absurd cc
only_asks [] (o ∷ os) (t ∷ ts) e = absurd cc
only_asks (x ∷ xs) [] ts e = absurd cc
only_asks (x ∷ xs) (o ∷ os) ts e = let r = only_asks xs os ts cc in let a : x ≡ o = cc in (r.0, both x o xs os a r.1)
  where
    both : (x o : Out) (xs os : List Out) → x ≡ o → xs ≡ os → x ∷ xs ≡ o ∷ os
    both x o xs os e f = cc

each_of : (P : ℕ → Type 0) (us : List ℕ) → ((u : ℕ) → Has us u → P u) → Each P us
each_of P [] f = tt
each_of P (u ∷ us) f = (f u (inl refl), each_of P us (λ v g. f v (inr g)))

module _ (m : Meaning) (h : Header) (stopped : List NodeId) (k : ℕ) (p : Layout) (longest : ℕ) where
  abbrev asked_to : ℕ → Waits → List Out
  asked_to b ws = asked_of unit_id (msg.Trim p.epoch b) ws

  abbrev Answering : Net m → ℕ × ℕ → Type 0
  Answering s w = UnitServes m h stopped k p longest s w.0

  -- of those that are waited for these have answered, and these haven't been asked yet
  pub record TrimStage (s : Net m) (c : Client m) (is : List Item) (n : ℕ) : Type 0 where
    pub below : ℕ
    pub waits : Waits
    pub done : List HasTrimmed
    pub asked : Waits
    pub split : waits ≡ waits_of done ++ asked
    pub shape : TaskShape m h stopped k p longest c (Trimming (record { below = below; waits = waits })) (asked_to below waits)
    pub items : is ≡ asks (asked_to below asked) ++ gones done
    pub some : waits ≡ [] → ⊥
    pub units : Each (Answering s) waits
    pub once : AskedOnce waits
    pub near : Each IsNear done

  -- A unit trims.

  pub trims_so : (u : UnitState) (b : ℕ) → u.epoch ≡ p.epoch → unit_step u (msg.Trim p.epoch b) ≡ says (trimmed u (max u.low b)) (msg.Gone (max u.low b))
  unfolding unit_step unit_ask on_ask
  trims_so u b e = ap (λ d. in_epoch d u (on_trim u (max u.low b))) (tested u.epoch p.epoch e)
    where
      tested : (a b : ℕ) → a ≡ b → eqb a b ≡ true
      tested a b e = grind arith

  serves_on : (s : Net m) (u g : ℕ) (x : UnitState) → x ≡ trimmed (unit_of m s u) g → too_far g ≡ false → (w : ℕ × ℕ) → Answering s w → Answering (with_unit m stopped s u x) w
  serves_on s u g x is near w a = by (set_index s.units u x w.0 new_unit)
    where
      by : ((w.0 ≡ u) × (slice_index_or (slice_set s.units u x) w.0 new_unit ≡ x)) ⊎ (slice_index_or (slice_set s.units u x) w.0 new_unit ≡ unit_of m s w.0) → Answering (with_unit m stopped s u x) w
      by (inl c) = record {
        on = on_alike m stopped s (with_unit m stopped s u x) (unit_alike m s u x) (unit_id w.0) ∙ a.on;
        epoch = ap (λ (y : UnitState). y.epoch) (c.1 ∙ is) ∙ (ap (λ n. (unit_of m s n).epoch) (sym c.0) ∙ a.epoch);
        low = ap (λ (y : UnitState). too_far y.low) (c.1 ∙ is) ∙ near;
      }
      by (inr c) = record {
        on = on_alike m stopped s (with_unit m stopped s u x) (unit_alike m s u x) (unit_id w.0) ∙ a.on;
        epoch = ap (λ (y : UnitState). y.epoch) c ∙ a.epoch;
        low = ap (λ (y : UnitState). too_far y.low) c ∙ a.low;
      }

  asks_first : (b : ℕ) (asked : Waits) (done : List HasTrimmed) (o : Out) (is : List Item) → Ask o ∷ is ≡ asks (asked_to b asked) ++ gones done
      → (w : ℕ × ℕ) × (ws : Waits) × (asked ≡ w ∷ ws) × (o ≡ out (unit_id w.0) w.1 (msg.Trim p.epoch b)) × (is ≡ asks (asked_to b ws) ++ gones done)
  asks_first b [] [] o is e = absurd cc
  asks_first b [] (t ∷ ts) o is e = absurd cc
  asks_first b (w ∷ ws) done o is e = (w, ws, refl, cc, cc)

  trim_told : (s : Net m) (o : Out) (is js : List Item) (n : ℕ) → NearFloor o.msg → Ready m h stopped k p s → (x : TrimStage s (client_of m h s k) js n) → js ≡ Ask o ∷ is → Told m h stopped k p TrimStage s o is n
  trim_told s o is js n fair ready x e =
      let f = asks_first x.below x.asked x.done o is (sym e ∙ x.items) in
      let w = f.0 in
      let z = msg.Trim p.epoch x.below in
      let q = out (unit_id w.0) w.1 z in
      let split = x.split ∙ ap (λ (ys : Waits). waits_of x.done ++ ys) f.2 in
      let serves = each_mid (Answering s) (waits_of x.done) w f.1 (subst (λ (ys : Waits). Each (Answering s) ys) split x.units) in
      let u = unit_of m s w.0 in
      let g = max u.low x.below in
      let near = near_most u.low x.below serves.low (subst (λ (y : Out). NearFloor y.msg) f.3 fair) in
      let step = trims_so u x.below serves.epoch in
      let t = with_unit m stopped s w.0 (unit_step u z).now in
      let d : HasTrimmed = (w, g) in
      subst (λ (y : Out). Told m h stopped k p TrimStage s y is n) (sym f.3) (record {
        running = serves.on;
        from = unit_id w.0;
        rid = w.1;
        says = msg.Gone g;
        sent = ap (λ y. answer_to m (packet_of m (client_id k) q) y.says) step;
        no_client = unit_no_client m h stopped k p longest w.0;
        ready = record { on = ready.on; rests = ready.rests; old = ready.old; layouts = ready.layouts; idle = ready.idle };
        client = refl;
        stage = record {
          below = x.below;
          waits = x.waits;
          done = x.done ++ d ∷ [];
          asked = f.1;
          split = split ∙ (nest (waits_of x.done) w f.1 ∙ ap (λ (ys : Waits). ys ++ f.1) (both_waits x.done d));
          shape = x.shape;
          items = ap (λ (l : List Item). l ++ Tell (unit_id w.0) w.1 (msg.Gone g) ∷ []) f.4 ∙ told_behind (asks (asked_to x.below f.1)) x.done d;
          some = x.some;
          units = each_to (Answering s) (Answering t) (serves_on s w.0 g (unit_step u z).now (ap (λ y. y.now) step) near) x.waits x.units;
          once = x.once;
          near = near_both x.done d x.near near;
        };
      })

  -- An answer comes.

  abbrev heard_of : Client m → Work m → ℕ → ℕ → Waits → Moved m
  heard_of c w b g ws = on_trims m c w b (met_gone g (trims_left b ws c.next))

  trim_fed : (c : Client m) (w : Work m) (b g : ℕ) (x : ℕ × ℕ) (ws : Waits) → Each (λ (v : ℕ × ℕ). eqb v.0 x.0 ≡ false) ws → too_far g ≡ false
      → task_feed m c w (Trimming (record { below = b; waits = x ∷ ws })) x.0 x.1 (reply (msg.Gone g)) ≡ heard_of c w b g ws
  unfolding task_feed trim_feed
  trim_fed c w b g x ws once near = ap (λ y. on_trims m c w b (trim_feed c.stand (record { below = b; waits = x ∷ ws }) x.0 y c.next)) (gone_near m h stopped k p longest g near)
      ∙ ap (λ ys. on_trims m c w b (met_gone g (trims_left b ys c.next))) (without_first x ws once)

  trim_goes : (s : Net m) (c : Client m) (n b g : ℕ) (x : ℕ × ℕ) (ts : List HasTrimmed) (f : TaskShape m h stopped k p longest c (Trimming (record { below = b; waits = x ∷ waits_of ts })) (asked_to b (x ∷ waits_of ts)))
      → Each (Answering s) (waits_of ts) → AskedOnce (waits_of ts) → Each IsNear ts
      → (IsOver m h stopped k p (given m c (heard_of c f.work b g (waits_of ts))) × (gones ts ≡ [])) ⊎ Goes m h stopped k p TrimStage s (given m c (heard_of c f.work b g (waits_of ts))) (gones ts) n
  unfolding client_asks task_asks
  trim_goes s c n b g x [] f units once near = inl (record { none = refl; sends = refl }, refl)
  trim_goes s c n b g x (t ∷ ts) f units once near =
      let task : Task m = Trimming (record { below = b; waits = waits_of (t ∷ ts) }) in
      inr (record {
        os = [];
        left = n;
        sends = ap (λ (q : Layout). drawn_from c.next (task_asks m q task)) f.stand ∙ none_drawn (asked_to b (waits_of (t ∷ ts))) c.next f.below.1;
        stage = record {
          below = b;
          waits = waits_of (t ∷ ts);
          done = t ∷ ts;
          asked = [];
          split = sym (append-nil (waits_of (t ∷ ts)));
          shape = record { stand = f.stand; work = record (f.work) { gone = max f.work.gone g; hand = Doing task }; waits = refl; hand = refl; awaited = refl; again = refl; asks = refl; below = f.below.1; away = f.away.1 };
          items = append-nil (gones (t ∷ ts));
          some = λ e. absurd cc;
          units = units;
          once = once;
          near = near;
        };
        less = omega arith;
      })

  -- the items that are left tell which answer it is
  tells_first : (b : ℕ) (asked : Waits) (done : List HasTrimmed) (from : NodeId) (rid : ℕ) (y : Msg) (is : List Item) → Tell from rid y ∷ is ≡ asks (asked_to b asked) ++ gones done
      → (t : HasTrimmed) × (ts : List HasTrimmed) × (asked ≡ []) × (done ≡ t ∷ ts) × (from ≡ unit_id t.0.0) × (rid ≡ t.0.1) × (y ≡ msg.Gone t.1) × (is ≡ gones ts)
  tells_first b (a ∷ asked) done from rid y is e = absurd cc
  tells_first b [] [] from rid y is e = absurd cc
  tells_first b [] (t ∷ ts) from rid y is e = (t, ts, refl, refl, cc, cc, cc, cc)

  abbrev After : Net m → Client m → NodeId → ℕ → Msg → List Item → ℕ → Type 0
  After s c from rid y is n = (IsOver m h stopped k p (client_deliver m c from rid y) × (is ≡ [])) ⊎ Goes m h stopped k p TrimStage s (client_deliver m c from rid y) is n

  trim_answered : (s : Net m) (c : Client m) (from : NodeId) (rid : ℕ) (y : Msg) (is js : List Item) (n : ℕ) (x : TrimStage s c js n) → js ≡ Tell from rid y ∷ is → After s c from rid y is n
  unfolding client_deliver is_latest
  trim_answered s c from rid y is js n x e =
      let f = tells_first x.below x.asked x.done from rid y is (sym e ∙ x.items) in
      let waits = x.split ∙ (ap (λ (ys : Waits). waits_of x.done ++ ys) f.2 ∙ (append-nil (waits_of x.done) ∙ ap (λ (ts : List HasTrimmed). waits_of ts) f.3)) in
      let near = subst (λ (ts : List HasTrimmed). Each IsNear ts) f.3 x.near in
      subst (λ (a : NodeId). After s c a rid y is n) (sym f.4)
      (subst (λ (r : ℕ). After s c (unit_id f.0.0.0) r y is n) (sym f.5)
      (subst (λ (z : Msg). After s c (unit_id f.0.0.0) f.0.0.1 z is n) (sym f.6)
      (subst (λ (l : List Item). After s c (unit_id f.0.0.0) f.0.0.1 (msg.Gone f.0.1) l n) (sym f.7)
      (heard f.0 f.1 (subst (λ (ws : Waits). TaskShape m h stopped k p longest c (Trimming (record { below = x.below; waits = ws })) (asked_to x.below ws)) waits x.shape)
      (subst (λ (ws : Waits). Each (Answering s) ws) waits x.units).1 (subst AskedOnce waits x.once) near.0 near.1))))
    where
      heard : (t : HasTrimmed) (ts : List HasTrimmed) (g : TaskShape m h stopped k p longest c (Trimming (record { below = x.below; waits = t.0 ∷ waits_of ts })) (asked_to x.below (t.0 ∷ waits_of ts)))
          → Each (Answering s) (waits_of ts) → AskedOnce (t.0 ∷ waits_of ts) → IsNear t → Each IsNear ts → After s c (unit_id t.0.0) t.0.1 (msg.Gone t.1) (gones ts) n
      heard t ts g units once close near =
          subst (λ (z : Moved m). (IsOver m h stopped k p (given m c z) × (gones ts ≡ [])) ⊎ Goes m h stopped k p TrimStage s (given m c z) (gones ts) n)
          (sym (task_fed m h stopped k p longest c (Trimming (record { below = x.below; waits = t.0 ∷ waits_of ts })) (asked_to x.below (t.0 ∷ waits_of ts)) (unit_id t.0.0) t.0.1 (reply (msg.Gone t.1)) g
          (first_awaited m h stopped k p longest (out (unit_id t.0.0) t.0.1 (msg.Trim p.epoch x.below)) (asked_to x.below (waits_of ts))) (ap is_latest (gone_near m h stopped k p longest t.1 close)) ∙ trim_fed c g.work x.below t.1 t.0 (waits_of ts) once.0 close))
          (trim_goes s c n x.below t.1 t.0 ts g units once.1 near)

  -- How it fares whatever comes.

  stage_facts : (s : Net m) (c : Client m) (is : List Item) (n : ℕ) → TrimStage s c is n → Busied m h stopped k p c
  stage_facts s c is n x = busied m h stopped k p longest c (Trimming (record { below = x.below; waits = x.waits })) (asked_to x.below x.waits) x.shape

  empty : (b : ℕ) (asked : Waits) (done : List HasTrimmed) → [] ≡ asks (asked_to b asked) ++ gones done → waits_of done ++ asked ≡ []
  empty b [] [] e = refl
  empty b [] (t ∷ ts) e = absurd cc
  empty b (w ∷ ws) done e = absurd cc

  stage_some : (s : Net m) (c : Client m) (is : List Item) (n : ℕ) → TrimStage s c is n → is ≡ [] → ⊥
  stage_some s c is n x e = x.some (x.split ∙ empty x.below x.asked x.done (sym e ∙ x.items))

  stage_stays : (s t : Net m) (c : Client m) (is : List Item) (n : ℕ) → Keeps m h stopped k p s t → TrimStage s c is n → TrimStage t c is n
  stage_stays s t c is n keep x = record { below = x.below; waits = x.waits; done = x.done; asked = x.asked; split = x.split; shape = x.shape; items = x.items; some = x.some; units = each_to (Answering s) (Answering t) (λ w a. keeps_unit m h stopped k p longest s t w.0 keep a) x.waits x.units; once = x.once; near = x.near }

  stage_called : (s : Net m) (c : Client m) (is : List Item) (n : ℕ) → TrimStage s c is n → TrimStage s (called m c) is n
  stage_called s c is n x = record { below = x.below; waits = x.waits; done = x.done; asked = x.asked; split = x.split; shape = shape_called m h stopped k p longest c (Trimming (record { below = x.below; waits = x.waits })) (asked_to x.below x.waits) x.shape; items = x.items; some = x.some; units = x.units; once = x.once; near = x.near }

  stage_ticked : (s : Net m) (c : Client m) (is : List Item) (os : List Out) (n : ℕ) → TrimStage s c is n → is ≡ asks os → TrimStage s (called m (record c { next = c.next + c.layouts })) is n
  stage_ticked s c is os n x e = record { below = x.below; waits = x.waits; done = x.done; asked = x.asked; split = x.split; shape = shape_ticked m h stopped k p longest c (Trimming (record { below = x.below; waits = x.waits })) (asked_to x.below x.waits) x.shape; items = x.items; some = x.some; units = x.units; once = x.once; near = x.near }

  stage_again : (s : Net m) (c : Client m) (is : List Item) (os : List Out) (n : ℕ) → TrimStage s c is n → is ≡ asks os → Again m h stopped k p c os
  stage_again s c is os n x e =
      let r = only_asks (asked_to x.below x.asked) os x.done (sym x.items ∙ e) in
      let all = x.split ∙ ap (λ (ts : List HasTrimmed). waits_of ts ++ x.asked) r.0 in
      subst (λ (ys : List Out). Again m h stopped k p c ys) (ap (λ (ys : Waits). asked_to x.below ys) all ∙ r.1) (again_is m h stopped k p longest c (Trimming (record { below = x.below; waits = x.waits })) (asked_to x.below x.waits) x.shape)

  pub units_talk : TalkOf m h stopped k p TrimStage (λ s y. NearFloor y) (Over m h stopped k p)
  units_talk = record {
    facts = stage_facts;
    some = stage_some;
    stays = stage_stays;
    calls = stage_called;
    again = stage_again;
    ticked = stage_ticked;
    asked = λ s o is n fair ready x. trim_told s o is (Ask o ∷ is) n fair ready x refl;
    answered = λ s from rid y is n ready x. trim_answered s (client_of m h s k) from rid y is (Tell from rid y ∷ is) n x refl;
  }

  -- All units are asked.

  asks_begin : (s : Net m) (c d : Client m) (w : Work m) (b n : ℕ) → 0 < length (units_of p) → Distinct (units_of p) → AllServe m h stopped k p longest s → d.next ≡ c.next → d.stand ≡ p → length (units_of p) ≤ n
      → Goes m h stopped k p TrimStage s (given m c (trim_begun m d w b (trim_start d.stand b d.next))) [] n
  unfolding trim_start client_asks task_asks
  asks_begin s c d w b n some once serves up stand few =
      subst (λ (q : Layout). Goes m h stopped k p TrimStage s (given m c (trim_begun m d w b (trim_start q b d.next))) [] n) (sym stand)
      (let us = units_of p in
      let waits = waits_for us d.next in
      let z = msg.Trim p.epoch b in
      let task : Task m = Trimming (record { below = b; waits = waits }) in
      let long = long_asked z waits ∙ waits_long us d.next in
      record {
        os = asked_to b waits;
        left = n - length us;
        sends = ap (λ (q : Layout). drawn_from c.next (task_asks m q task)) stand ∙ all_drawn z us d.next c.next (omega (arith, up));
        stage = record {
          below = b;
          waits = waits;
          done = [];
          asked = waits;
          split = refl;
          shape = record { stand = stand; work = record w { hand = Doing task }; waits = refl; hand = refl; awaited = refl; again = refl; asks = refl; below = all_below z us d.next _ (omega arith); away = all_away m h stopped k p longest z waits };
          items = sym (append-nil _);
          some = λ e. waits_some us d.next some e;
          units = each_waits (λ u. UnitServes m h stopped k p longest s u) us d.next (each_of (λ u. UnitServes m h stopped k p longest s u) us serves);
          once = all_once us d.next once;
          near = tt;
        };
        less = omega (arith, few, long);
      })

  -- The whole command.
  module _ (low_at : ℕ → ℕ) (many tail most : ℕ) (kind : Kind low_at p) (some : 0 < length (units_of p)) (once : Distinct (units_of p)) where
    abbrev TrimReads : StageOf m h stopped k p
    TrimReads = Reads m h stopped k p longest low_at many tail most kind (trimming_way m)

    abbrev TrimEnd : ExitOf m h stopped k p
    TrimEnd = EndsWalks m h stopped k p longest low_at many tail most kind (trimming_way m)

    abbrev First : StageOf m h stopped k p
    First = Roomy m h stopped k p TrimReads TrimEnd (length (units_of p))

    abbrev FirstEnd : ExitOf m h stopped k p
    FirstEnd = RoomyExit m h stopped k p TrimReads TrimEnd (length (units_of p))

    abbrev pub TrimsStage : StageOf m h stopped k p
    TrimsStage = Either m h stopped k p First TrimStage FirstEnd (Over m h stopped k p)

    trims_begin : (s : Net m) (c : Client m) (t : ClientTurn m) (n : ℕ) → Ready m h stopped k p s → FirstEnd s c t n → Over m h stopped k p s c t n ⊎ Goes m h stopped k p TrimStage s t [] n
    unfolding client_asks
    trims_begin s c t n ready e =
        let few = e.few in
        subst (λ (u : ClientTurn m). IsOver m h stopped k p u ⊎ Goes m h stopped k p TrimStage s u [] n) (sym e.exit.turn) (by e.exit.at e.exit.moved e.exit.here.units (omega (arith, few)) e.exit.next e.exit.stand e.exit.goes)
      where
        by : (at : Client m) (x : Moved m) → AllServe m h stopped k p longest s → length (units_of p) ≤ n → at.next ≡ c.next → at.stand ≡ p → Trims' m at x → IsOver m h stopped k p (given m c x) ⊎ Goes m h stopped k p TrimStage s (given m c x) [] n
        by at x serves few up stand (TrimEnds y a) = inl (record { none = a.none; sends = ap (λ os. os ++ drawn_from c.next (client_asks m y.now)) a.besides ∙ ap (λ os. drawn_from c.next os) (over_asks m y.now a.none) })
        by at x serves few up stand (TrimAsks d w b same next) = inr (asks_begin s c d w b n some once serves (next ∙ up) (same ∙ stand) few)

    pub trims_talk : TalkOf m h stopped k p TrimsStage (λ s y. NearFloor y) (Over m h stopped k p)
    trims_talk = joined_of m h stopped k p First TrimStage FirstEnd (Over m h stopped k p) (λ s y. NearFloor y)
        (any_fair m h stopped k p First FirstEnd (λ s y. NearFloor y) (roomy m h stopped k p TrimReads TrimEnd (length (units_of p)) (reads_talk m h stopped k p longest low_at many tail most kind (trimming_way m))))
        units_talk trims_begin
