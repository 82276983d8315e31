-- A checkpoint of a true view gives a true base.
use Rattle.std.proofs.Common.{◌≡◌, ℕ, List, [], Bool, true, false, sym, ap, ◌∙◌, Option, Some, None}
use Rattle.std.specs.Prelude.{if◌then◌else◌, ◌&&◌, nat_le, ◌==◌}
use Rattle.tg_base.specs.declared.ids.Oid.{Oid}
use Rattle.tg_base.specs.declared.marks.Part.{Part}
use Rattle.tg_entry.specs.declared.entry.Entry.{Entry}
use Rattle.tg_entry.specs.declared.entry.Body.{Body}
use Rattle.tg_entry.specs.declared.entry.Body.TheVariants.{Commit, Decision, Checkpoint}
use Rattle.tg_kind.specs.Meaning.{Meaning}
use Rattle.tg_base.specs.Orders.{oid_eq}
use Rattle.tg_protocol.specs.Versions.{based}
use Rattle.tg_protocol.specs.Views.{Base, state_of}
use Rattle.tg_protocol.specs.Checkpoints.{checkpoint, base_at, base_in, loaded}
use Rattle.tg_law_replies.proofs.Plays.Saved.{checkpoints_keep}
use Rattle.tg_law_replies.specs.History.Logs.{state_below, version_below}
use Rattle.tg_law_replies.specs.Views.Laws.{SavesTrue}
use Rattle.tg_law_replies.proofs.Views.Plays.{max_left}

-- A checkpoint's base has no noted changes.

module _ (m : Meaning) (o : Oid) (c : Base m) where
  no_base : None ≡ Some c → ⊥
  no_base e = cc

  one_base : (b : Base m) → Some b ≡ Some c → b ≡ c
  one_base b e = cc

  loaded_plain : (upto version whole : ℕ) (keys : List (Part × ℕ)) (s : Option m.state) → loaded m o upto (based o version whole keys) s ≡ Some c → c.versions.noted ≡ []
  unfolding based
  loaded_plain upto version whole keys None e = absurd (no_base e)
  loaded_plain upto version whole keys (Some s) e = ap (λ (b : Base m). b.versions.noted) (sym (one_base (record { oid = o; state = s; versions = based o version whole keys; upto = upto }) e))

  in_plain : (b : Body) → base_in m o b ≡ Some c → c.versions.noted ≡ []
  in_plain (Commit rs ws) e = absurd (no_base e)
  in_plain (Decision at b) e = absurd (no_base e)
  in_plain (Checkpoint p upto version whole keys bytes) e = by (oid_eq o p && nat_le version upto) e
    where
      by : (t : Bool) → (if t then loaded m o upto (based o version whole keys) (m.load o bytes) else None) ≡ Some c → c.versions.noted ≡ []
      by true f = loaded_plain upto version whole keys (m.load o bytes) f
      by false f = absurd (no_base f)

  base_plain : (e : Entry) → base_at m o e ≡ Some c → c.versions.noted ≡ []
  base_plain e is = by (e.head.format == 2) is
    where
      by : (t : Bool) → (if t then base_in m o e.body else None) ≡ Some c → c.versions.noted ≡ []
      by true f = in_plain e.body f
      by false f = absurd (no_base f)

pub saves_true : (m : Meaning) → SavesTrue m
saves_true m objects es v o b client number rising sound h is le loads =
    let t = h.told o b is in
    let at = max_left v.upto b.upto le in
    let state : state_of m v o ≡ Some (state_below m objects es v.upto o) = t.state ∙ ap (λ (n : ℕ). Some (state_below m objects es n o)) at in
    let k = checkpoints_keep m v o b (state_below m objects es v.upto o) client number sound is le state loads in (
      k.0,
      k.1,
      k.2.upto,
      record {
        plain = base_plain m o k.0 (checkpoint m v o v.upto client number) k.1;
        state = k.2.state ∙ ap (λ (n : ℕ). state_below m objects es n o) (sym k.2.upto);
        versions = λ j. k.2.versions j ∙ (t.versions j ∙ ap (λ (n : ℕ). version_below m objects es n o j) (at ∙ sym k.2.upto));
      },
    )
