-- A mark that is told is of an object of the format: the command that asked for it named one. A mark is told right after the commit of
-- its own transaction, and in no other turn (as in `Alike.Along` of tg_law_headline); so its client had it in hand.
use Rattle.std.proofs.Common.{◌≡◌, ℕ, List, ◌∷◌, ◌++◌, true, refl, sym, subst, inl, inr}
use Rattle.tg_base.specs.Clusters.{Header}
use Rattle.tg_base.specs.declared.ids.Oid.{Oid}
use Rattle.tg_entry.specs.Records.{is_object}
use Rattle.tg_kind.specs.Meaning.{Meaning}
use Rattle.tg_model.specs.declared.command.Command.TheVariants as cmd
use Rattle.tg_model.specs.declared.command.Event.TheVariants.{Command as Commands}
use Rattle.tg_model.specs.declared.trace.What.TheVariants as told
use Rattle.tg_model.specs.Kinds.{WhatOf, NoteOf}
use Rattle.tg_protocol.specs.Clients.{Task}
use Rattle.tg_protocol.specs.ClientSteps.{ClientTurn}
use Rattle.tg_protocol.specs.Worlds.{CommandStart, World, Told, start, client}
use Rattle.tg_protocol.specs.Runs.{Moves, Takes, Reaches}
use Rattle.tg_law_layouts.specs.Moves.After.{after}
use Rattle.tg_law_layouts.specs.Moves.Configs.{config}
use Rattle.tg_law_layouts.proofs.Moves.Lists.{contained}
use Rattle.tg_law_layouts.proofs.Moves.Members.{Has, has_left}
use Rattle.tg_law_layouts.proofs.Moves.Moves.{ClientInput}
use Rattle.tg_law_replies.specs.Replies.Runs.{InEachStep}
use Rattle.tg_law_replies.specs.Replies.Steps.{EachEvent}
use Rattle.tg_law_replies.proofs.Books.Effects.{Suits}
use Rattle.tg_law_replies.proofs.Books.Worlds.{WorldBook, run_book, start_book, asked_in}
use Rattle.tg_law_headline.proofs.Alike.Since.{SeesFloor, SayOk, AllSay, Each, Marking}
use Rattle.tg_law_headline.proofs.Alike.Speaks.{told_of}
use Rattle.tg_law_headline.proofs.Alike.Marks.{InHand, hand_of}
use Rattle.tg_law_headline.proofs.Alike.Along.{Got, AskSent, Known, es, all_by}
use Rattle.tg_law_headline.proofs.Alike.Running.{AllSay as EachSay, none_say, both_say, notes_say}

module _ (m : Meaning) where
  -- a mark is of an object of the format
  abbrev MarksObject : WhatOf m → Type 0
  MarksObject (told.Marked o j) = is_object o ≡ true
  MarksObject what = Unit {0}

  abbrev Says : Told m → Type 0
  Says t = MarksObject t.mark.what

module _ (m : Meaning) (h : Header) (ms : Moves m) (r : Reaches m h ms (after m h ms)) (Floor : ℕ → ℕ → Type 0) (sees : InEachStep m h ms (λ before u e. EachEvent m h.objects (es m h ms r) (SeesFloor m Floor) u e)) where
  -- A step at a world of the run.
  module _ (xs ys : Moves m) (split : ms ≡ xs ++ ys) (n : ℕ) (s : CommandStart) where
    abbrev w : World m
    w = after m h xs

    books : WorldBook m (after m h xs)
    books = run_book m xs (start m h) (start_book m h)

    -- it was asked to mark that object
    asked : (z : ℕ) (o : Oid) (k : ℕ) → InHand m (client m (after m h xs) n) z o k → is_object o ≡ true
    asked z o k g =
        let forget = subst (λ (y : Task m). Suits m g.work.command y) g.is ((books n).suits g.work g.has) in
        (r.goes.lawful (Takes (Commands n (cmd.Forget o k)))
        (contained ms (Takes (Commands n (cmd.Forget o k))) (subst (λ (zs : Moves m). Has zs (Takes (Commands n (cmd.Forget o k)))) (sym split)
        (has_left xs ys (Takes (Commands n (cmd.Forget o k))) (asked_in m h xs n k o g.work g.has forget))))).1.0

    said : (what : WhatOf m) → SayOk m (Got m h ms r n) (AskSent m h ms r n) s.next s.epoch n (Known m h ms r) Floor h.objects (es m h ms r) what → MarksObject m what
    said (told.Marked o k) a = absurd a
    said what a = tt

    note_marks : (t : ClientTurn m) → ClientInput m (config m (after m h xs)) n t → (ns : List (NoteOf m)) → t.notes ≡ ns → AllSay m (Got m h ms r n) (AskSent m h ms r n) s.next s.epoch n (Known m h ms r) Floor h.objects (es m h ms r) ns
        → (y : NoteOf m) → Has ns y → MarksObject m y.what
    note_marks t i ns is (Each each) y j = said y.what (each y j)
    note_marks t i ns is (Marking z o k p positive) y (inl e) = subst (λ (u : NoteOf m). MarksObject m u.what) (sym e) tt
    note_marks t i ns is (Marking z o k p positive) y (inr (inl e)) = subst (λ (u : NoteOf m). MarksObject m u.what) (sym e) (asked z o k (hand_of m (after m h xs) books n z o k p positive t i is))
    note_marks t i ns is (Marking z o k p positive) y (inr (inr j)) = absurd j

  pub marks_object : (t : Told m) (o : Oid) (n : ℕ) → Has (after m h ms).told t → t.mark.what ≡ told.Marked o n → is_object o ≡ true
  marks_object t o n i is = subst (MarksObject m) is (all_by m h ms r Floor sees (EachSay m (Says m)) (none_say m (Says m)) (both_say m (Says m))
      (λ xs e ys split n s t i says. notes_say m (Says m) (told_of m (after m h xs) n s) t.notes (note_marks xs (Takes e ∷ ys) split n s t i t.notes refl says)) t i)
