-- What a trim tells: its tail was told since its command began, it is up to the directory's floor there, and each unit of a
-- layout has trimmed so far.
use Rattle.std.proofs.Common.{◌≡◌, ◌⊎◌, ℕ, ◌≤◌, List, refl, sym, ap, ◌∙◌, subst, inl, inr, arith}
use Rattle.std.specs.Prelude.{Contains, true}
use Rattle.tg_base.specs.Clusters.{Header}
use Rattle.tg_base.specs.declared.ids.Oid.{Oid}
use Rattle.tg_base.specs.declared.msg.Msg.TheVariants as msg
use Rattle.tg_base.specs.declared.packet.Packet.{Packet}
use Rattle.tg_kind.specs.Meaning.{Meaning}
use Rattle.tg_model.specs.declared.trace.What.TheVariants as told
use Rattle.tg_model.specs.Kinds.{WhatOf}
use Rattle.tg_protocol.specs.Words.{client_id, unit_id, directory}
use Rattle.tg_protocol.specs.Layouts.{units_of}
use Rattle.tg_protocol.specs.Logs.{history_of}
use Rattle.tg_protocol.specs.Worlds.{World, Told, unit, history}
use Rattle.tg_protocol.specs.Runs.{Moves, Reaches}
use Rattle.tg_protocol.specs.Alike.{TrimmedTo}
use Rattle.tg_law_layouts.specs.Moves.After.{after}
use Rattle.tg_law_layouts.specs.Moves.Telling.{is_request}
use Rattle.tg_law_layouts.proofs.Moves.Lists.{contained}
use Rattle.tg_law_layouts.proofs.Moves.Members.{has_contained}
use Rattle.tg_law_layouts.proofs.Requests.Starts.{known}
use Rattle.tg_law_replies.specs.History.Worlds.{entries_in}
use Rattle.tg_law_replies.specs.History.Logs.{state_below}
use Rattle.tg_law_replies.specs.Replies.Ended.{AppendsEnd}
use Rattle.tg_law_replies.specs.Replies.Laws.{ClientsFind}
use Rattle.tg_law_headline.specs.Alike.Rows.{TrimsAgree, TrimsAgreeByRuns}
use Rattle.tg_law_headline.proofs.Alike.Trims.{TrimTold, trims_told}
use Rattle.tg_law_headline.proofs.Alike.Since.{SayOk}
use Rattle.tg_law_headline.proofs.Alike.Sights.{FloorIs, objects_are, floors_seen}
use Rattle.tg_law_headline.proofs.Alike.Along.{Got, AskSent, Known, IsMark, all_say}

trim_asks : (e b : ℕ) → is_request (msg.Trim e b) ≡ true
unfolding is_request
trim_asks e b = refl

module _ (m : Meaning) (h : Header) (ms : Moves m) (r : Reaches m h ms (after m h ms)) (finds : ClientsFind m h ms (after m h ms)) (ends : AppendsEnd m h ms (after m h ms)) where
  abbrev end : World m
  end = after m h ms

  abbrev Floor : ℕ → ℕ → Type 0
  Floor = FloorIs m h ms r finds ends

  module _ (t : Told m) (n : ℕ) (i : Contains end.told t) (is : t.mark.what ≡ told.Trimmed n) where
    abbrev k : ℕ
    k = t.mark.client

    abbrev say : WhatOf m → Type 0
    say what = SayOk m (Got m h ms r k) (AskSent m h ms r k) t.noted.next t.noted.epoch k (Known m h ms r) Floor h.objects (entries_in m end) what

    said : say (told.Trimmed n)
    said = by (all_say m h ms r Floor (floors_seen m h ms r finds ends) t (has_contained end.told t i))
      where
        by : say t.mark.what ⊎ IsMark m h ms r t.mark.what → say (told.Trimmed n)
        by (inl y) = subst (λ (z : WhatOf m). say z) is y
        by (inr y) = absurd (subst (λ (z : WhatOf m). IsMark m h ms r z) is y)

    -- what a unit has answered it has trimmed
    low : (u : ℕ) → (n ≡ 0) ⊎ TrimTold (Got m h ms r k) (AskSent m h ms r k) t.noted.epoch (Known m h ms r) u n → n ≤ (unit m end u).low
    low u (inl e) = omega (arith, e)
    low u (inr d) =
        let answer : Packet = record { from = unit_id u; to = client_id k; rid = d.rid; msg = msg.Gone d.low } in
        let ask : Packet = record { from = client_id k; to = unit_id u; rid = d.rid; msg = msg.Trim d.epoch n } in
        let a = (trims_told m h ms).answered u answer d.gone refl in
        a.low d.epoch n d.low ((known m h ms).numbers.same a.ask ask a.asked d.ask a.request (trim_asks d.epoch n) a.from a.to a.rid) refl

    trimmed : TrimmedTo m end t n
    unfolding history history_of
    trimmed = record {
      tail = said.tail;
      links = said.held.told.links;
      synced = record {
        rid = said.held.told.rid;
        now = said.held.told.now;
        sent = record {
          packet = record { from = said.held.told.from; to = client_id k; rid = said.held.told.rid; msg = msg.Tail said.tail said.held.told.links };
          sent = contained end.packets _ said.held.told.got;
          to = refl;
          number = refl;
          says = refl;
        };
      };
      floor = said.held.floor ∙ ap (λ (os : List Oid). m.floor (state_below m os (entries_in m end) said.tail directory)) (sym (objects_are m h ms r finds ends));
      units = record {
        epoch = said.all.layout.epoch;
        later = said.all.later;
        layout = said.all.layout;
        decided = said.all.known;
        units = λ u c. low u (said.all.units u (has_contained (units_of said.all.layout) u c));
      };
    }

pub trims_agree : (m : Meaning) → TrimsAgreeByRuns m
trims_agree m h ms w r finds ends =
    subst (λ (v : World m). Reaches m h ms v → ClientsFind m h ms v → AppendsEnd m h ms v → TrimsAgree m v) (sym r.goes.is) (λ a b c t n i is. trimmed m h ms a b c t n i is) r finds ends
