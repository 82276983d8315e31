-- A live run that is kept, after a line and after a datagram.
use Rattle.std.proofs.Common.{◌≡◌, ◌≤◌, ◌∙◌, ℕ, ◌+◌, List, [], ◌∷◌, ◌++◌, map, drop, length, Option, Some, None, refl, sym, ap, subst, append_assoc, length-append, arith}
use Rattle.std.proofs.lemmas.List.{map-append}
use Rattle.tg_base.specs.Clusters.{Header}
use Rattle.tg_base.specs.declared.fault.Which.{Which}
use Rattle.tg_io.specs.Acts.{Comes}
use Rattle.tg_io.specs.Bytes.{Grows}
use Rattle.tg_io.specs.Links.{Adds}
use Rattle.tg_io.specs.declared.link.Arrival.{Arrival}
use Rattle.tg_io.specs.declared.link.Sent.{Sent}
use Rattle.tg_io.proofs.Bytes.{grows_none}
use Rattle.tg_live.specs.Books.{IsBook}
use Rattle.tg_protocol.specs.Worlds.{limit_of, start}
use Rattle.tg_any.specs.AllKinds.{all_kinds}
use Rattle.tg_replay.specs.Runs.{Runs, line_on, line_text}
use Rattle.tg_script.specs.Headers.{lines_text}
use Rattle.tg_script.specs.declared.line.Line.{Line}
use Rattle.tg_world.specs.Kept.{KeepsWorld}
use Rattle.tg_live.specs.declared.live.Live.{Live as Kept}
use Rattle.tg_live.specs.Sends.{Carried, all_gone, sending, spellings, AreFit, IsMadeOver}
use Rattle.tg_live.specs.Lives.{Answer, Live, stops, opened, recorded, recorded_by, after_line, heard, received}
use Rattle.tg_live.specs.Kept.{Keeps}
use Rattle.tg_live.proofs.Packets.{grows_by}

none_fit : AreFit []
none_fit = record { each = λ i p e. absurd cc }

-- before the first line
pub opened_keeps : (h : Header) (k : Kept) (before : Carried) → k.cluster ≡ h → KeepsWorld all_kinds k.world (start all_kinds h) → IsBook k.book [] [] → k.recording ≡ [] → k.received ≡ 0 → Keeps h before before k (opened h)
unfolding start
opened_keeps h k before cluster world book recording received = record {
  cluster = cluster;
  world = world;
  fit = none_fit;
  book = book;
  recording = recording;
  received = received;
  sent = grows_none before.sent;
  acts = grows_none before.acts;
}

-- a limit was reached already
pub recorded_stops : (l : Live) (x : Line) (which : Which) → limit_of all_kinds l.world ≡ Some which → recorded l x ≡ stops l which
unfolding recorded
recorded_stops l x which e = ap (λ (o : Option Which). recorded_by o l x) e

pub recorded_goes : (l : Live) (x : Line) → limit_of all_kinds l.world ≡ None → recorded l x ≡ after_line l x (line_on l.world x)
unfolding recorded
recorded_goes l x e = ap (λ (o : Option Which). recorded_by o l x) e

lines_more : (ls : List (List ℕ)) (l : List ℕ) → lines_text (ls ++ l ∷ []) ≡ lines_text ls ++ (l ++ 10 ∷ [])
lines_more [] l = refl
lines_more (k ∷ ks) l = ap (λ (t : List ℕ). k ++ 10 ∷ t) (lines_more ks l) ∙ sym (append_assoc k (10 ∷ lines_text ks) (l ++ 10 ∷ []))

pub text_more : (ls : List Line) (l : Line) → lines_text (map line_text (ls ++ l ∷ [])) ≡ lines_text (map line_text ls) ++ (line_text l ++ 10 ∷ [])
text_more ls l = ap lines_text (map-append line_text ls (l ∷ [])) ∙ lines_more (map line_text ls) (line_text l)

-- a recording is longer after a line, whose line feed it has got at least
pub line_longer : (before after text : List ℕ) → after ≡ before ++ (text ++ 10 ∷ []) → length before + 1 ≤ length after
line_longer before after text e = omega (arith, ap length e, length-append before (text ++ 10 ∷ []), length-append text (10 ∷ []))

pub made_keeps : (h : Header) (first before after : Carried) (k v : Kept) (l : Live) (x : Line) (r : Runs) → Keeps h first before k l → v.cluster ≡ k.cluster → KeepsWorld all_kinds v.world r.world
    → IsMadeOver l.world.packets r.world.packets k.book v.book before after → v.recording ≡ k.recording ++ (line_text x ++ 10 ∷ []) → v.received ≡ k.received → Keeps h first after v (after_line l x r).live
made_keeps h first before after k v l x r keeps cluster world over recording received = record {
  cluster = cluster ∙ keeps.cluster;
  world = world;
  fit = over.fit;
  book = over.noted l.delivered keeps.book;
  recording = recording ∙ ap (λ (t : List ℕ). t ++ (line_text x ++ 10 ∷ [])) keeps.recording ∙ sym (text_more l.lines x);
  received = received ∙ keeps.received;
  sent = over.sent first.sent keeps.sent;
  acts = grows_by first.acts before.acts after.acts l.acts (all_gone (drop (length l.world.packets) r.world.packets)) keeps.acts over.acts;
}

-- a packet more was delivered, and the book says so
pub delivered_keeps : (h : Header) (first now : Carried) (k v : Kept) (l : Live) (i : ℕ) → Keeps h first now k l → v.cluster ≡ k.cluster → v.world ≡ k.world → v.recording ≡ k.recording → v.received ≡ k.received
    → IsBook v.book (spellings l.world.packets) (i ∷ l.delivered) → Keeps h first now v (record l { delivered = i ∷ l.delivered })
delivered_keeps h first now k v l i keeps cluster world recording received book = record {
  cluster = cluster ∙ keeps.cluster;
  world = subst (λ x. KeepsWorld all_kinds x l.world) (sym world) keeps.world;
  fit = keeps.fit;
  book = book;
  recording = recording ∙ keeps.recording;
  received = received ∙ keeps.received;
  sent = keeps.sent;
  acts = keeps.acts;
}

-- a datagram was passed by
pub passed_keeps : (h : Header) (first now : Carried) (k v : Kept) (l : Live) → Keeps h first now k l → v.cluster ≡ k.cluster → v.world ≡ k.world → v.recording ≡ k.recording → v.received ≡ k.received
    → IsBook v.book (spellings l.world.packets) l.delivered → Keeps h first now v l
passed_keeps h first now k v l keeps cluster world recording received book = record {
  cluster = cluster ∙ keeps.cluster;
  world = subst (λ x. KeepsWorld all_kinds x l.world) (sym world) keeps.world;
  fit = keeps.fit;
  book = book;
  recording = recording ∙ keeps.recording;
  received = received ∙ keeps.received;
  sent = keeps.sent;
  acts = keeps.acts;
}

-- an answer was taken
pub heard_keeps : (h : Header) (first now later : Carried) (k : Kept) (l : Live) (a : Answer) → Keeps h first now k l → later.sent ≡ now.sent → Adds now.acts (Comes a) later.acts → Keeps h first later k (heard l a)
heard_keeps h first now later k l a keeps same act = record {
  cluster = keeps.cluster;
  world = keeps.world;
  fit = keeps.fit;
  book = keeps.book;
  recording = keeps.recording;
  received = keeps.received;
  sent = subst (λ (o : Option (List Sent)). Grows first.sent (map sending l.world.packets) o) (sym same) keeps.sent;
  acts = grows_by first.acts now.acts later.acts l.acts (Comes a ∷ []) keeps.acts act;
}

-- and was one datagram more
pub received_keeps : (h : Header) (first now later : Carried) (k v : Kept) (l : Live) (a : Arrival) → Keeps h first now k l → later.sent ≡ now.sent → Adds now.acts (Comes (Some a)) later.acts
    → v.cluster ≡ k.cluster → v.world ≡ k.world → v.recording ≡ k.recording → v.book ≡ k.book → v.received ≡ k.received + 1 → Keeps h first later v (received l a)
received_keeps h first now later k v l a keeps same act cluster world recording book count =
    let on = heard_keeps h first now later k l (Some a) keeps same act in
    record {
      cluster = cluster ∙ on.cluster;
      world = subst (λ x. KeepsWorld all_kinds x l.world) (sym world) on.world;
      fit = on.fit;
      book = subst (λ b. IsBook b (spellings l.world.packets) l.delivered) (sym book) on.book;
      recording = recording ∙ on.recording;
      received = count ∙ ap (λ n. n + 1) on.received;
      sent = on.sent;
      acts = on.acts;
    }
