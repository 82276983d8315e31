-- From the lines of a text to how its reading ends.
use Rattle.std.proofs.Common.{◌≡◌, ℕ, suc, ◌+◌, ◌<◌, ◌≤◌, ◌^◌, List, [], ◌∷◌, ◌++◌, length, map, take, sym, ap, ◌∙◌, subst, append_assoc, arith, Some, None, Option, Result, IfOk, IfSome}
use Rattle.std.proofs.lemmas.List.{append-nil}
use Rattle.tg_base.specs.Clusters.{Header, IsHeader}
use Rattle.tg_io.specs.declared.fault.IoErr.{IoErr}
use Rattle.tg_protocol.specs.Worlds.{start}
use Rattle.tg_script.specs.Headers.{header_lines}
use Rattle.tg_script.specs.Lines.{IsLine as IsLineOf}
use Rattle.tg_script.specs.declared.line.Line.{Line}
use Rattle.tg_world.specs.Kept.{KeepsWorld}
use Rattle.tg_lines.specs.Feeds.{feeds, NoneOutside, TakesFeeds}
use Rattle.tg_lines.specs.Lines.{lines, ahead, TakesLine}
use Rattle.tg_lines.specs.Openings.{Opened, IsNoLine}
use Rattle.tg_lines.proofs.Feeding.{takes_more}
use Rattle.tg_lines.proofs.Openings.{no_line, none_outside}
use Rattle.tg_lines.specs.declared.header.Opening.TheVariants.{Opens, Outside as OutsideLine}
use Rattle.tg_any.specs.AllKinds.{all_kinds}
use Rattle.tg_replay.specs.Runs.{IsOutsideAt, Script, IsLine, MayCome, Runs, line_on, line_text, text_lines, world_of}
use Rattle.tg_replay.specs.declared.stages.Run.{Run}
use Rattle.tg_replay.specs.declared.stages.End.{End}
use Rattle.tg_replay.specs.declared.stages.End.TheVariants.{Whole, Outside, Limited}
use Rattle.tg_replay.specs.declared.stages.Finish.{Finish}
use Rattle.tg_replay.specs.declared.stages.Fed.{Fed}
use Rattle.tg_replay.specs.declared.stages.Fed.TheVariants.{Goes, Stops}
use Rattle.tg_replay.specs.Stages.{IsRunOf, Reads, StillReads, Ends, Finished, Took, IsOutside, IsMade, GoesOnKept, CountsOn, status_of}
use Rattle.tg_replay.proofs.Lists.{length_last, take_within}
use Rattle.tg_replay.proofs.Scripts.{longer, run_longer, opening, opening_lawful, run_opens, run_goes_on, run_ends, run_limited, passes_limit, refuses_event, first_event, refuses_header}

-- how reading has ended, from its status and its run
pub ended : (text : List ℕ) (f : Finish) (end : End) (o : Option Run) → f.end ≡ end → f.run ≡ o → Ends text (status_of end) o → Finished text f
ended text f end o e g h = subst (λ (x : End). Ends text (status_of x) f.run) (sym e) (subst (λ (y : Option Run). Ends text (status_of end) y) (sym g) h)

-- What a text spells, as a line below a header.

pub line_of : (h : Header) (text : List ℕ) (l : Line) → IsLineOf h text l → IsLine h l
line_of h text l is = record { fits = is.fits; short = subst (λ (t : List ℕ). length t ≤ 8192) is.spelled is.short }

pub text_of_line : (h : Header) (text : List ℕ) (l : Line) → IsLine h l → text ≡ line_text l → IsLineOf h text l
text_of_line h text l is e = record { spelled = e; fits = is.fits; short = subst (λ (t : List ℕ). length t ≤ 8192) (sym e) is.short }

-- a line that no script has next
pub outside_took : (text line : List ℕ) (read more : List (List ℕ)) (r : Run) (s : Script) (f : Fed) → IsRunOf read r s → lines text ≡ read ++ line ∷ more →
    ((m : Line) → IsLine s.header m → MayCome (world_of s) m → line ≡ line_text m → ⊥) → IsOutside r f → Took text (read ++ line ∷ []) f
outside_took text line read more r s (Goes q) h cut none m = absurd m
outside_took text line read more r s (Stops f) h cut none m =
    let at : 4 + r.world.event ≡ 4 + length s.events = ap (λ n. 4 + n) h.events in
    ended text f (Outside (4 + r.world.event)) (Some r) m.0 m.1 (
      s,
      h.world,
      h.cluster,
      refuses_event text line read more r s h cut none (4 + r.world.event) at,
      h.events,
      first_event text line read more r s h cut none (4 + r.world.event) at,
    )

pub outside_kept : (r : Run) (f : Fed) → IsOutside r f → GoesOnKept f
outside_kept r (Goes q) m = absurd m
outside_kept r (Stops f) m = tt

pub outside_counts : (n : ℕ) (r : Run) (f : Fed) → IsOutside r f → CountsOn n f
outside_counts n r (Goes q) m = absurd m
outside_counts n r (Stops f) m = tt

pub made_kept : (r : Run) (x : Runs) (f : Fed) → IsMade r x f → GoesOnKept f
made_kept r x (Goes q) m = record { world = x.world; keeps = m.1.world }
made_kept r x (Stops f) m = tt

-- what is made of a line that may come
pub made_took : (text line : List ℕ) (read more : List (List ℕ)) (r : Run) (s : Script) (l : Line) (f : Fed) → IsRunOf read r s → r.world.event + 4 < 2 ^ 64 → lines text ≡ read ++ line ∷ more →
    IsLine s.header l → MayCome (world_of s) l → line ≡ line_text l → ((m : Line) → IsLine s.header m → line ≡ line_text m → m ≡ l) →
    IsMade r (line_on (world_of s) l) f → Took text (read ++ line ∷ []) f
made_took text line read more r s l (Goes q) h room cut is comes spelled one m = (longer s l, run_goes_on read r q s line l h room is comes spelled one m.0 m.1)
made_took text line read more r s l (Stops f) h room cut is comes spelled one m =
    let events : m.run.world.event ≡ length (s.events ++ l ∷ []) = let a = h.events in let b = length_last s.events l in let e = m.after.events in omega arith in
    ended text f (Limited m.which) (Some m.run) m.end m.is (
      longer s l,
      subst (λ (x : Runs). KeepsWorld all_kinds m.run.world x.world) (sym (run_longer s l h.within)) m.after.world,
      m.after.cluster ∙ h.cluster,
      run_limited text line read more r s l m.which h room cut is comes spelled m.over,
      events,
      passes_limit text line read more r s l m.which h cut is comes spelled m.over,
    )

-- Line by line.

pub still_none : (before : Option (List ℕ)) (r : Run) → StillReads before before r r
still_none None r = tt
still_none (Some rest) r = λ text h. h

-- what feeding a line to a run comes to
abbrev pub Feeds : Run → List ℕ → Fed → Type 0
Feeds r line f = (text : List ℕ) (read more : List (List ℕ)) (s : Script) → lines text ≡ read ++ line ∷ more → IsRunOf read r s → Took text (read ++ line ∷ []) f

pub still_more : (before rest after : Option (List ℕ)) (r q next : Run) (line : List ℕ) → StillReads before rest r q → TakesLine rest after (Some line) → TakesFeeds 1 rest after → Feeds q line (Goes next) → StillReads before after r next
still_more None rest after r q next line h t k f = tt
still_more (Some before) None after r q next line h t k f = absurd h
still_more (Some before) (Some rest) None r q next line h t k f = t
still_more (Some before) (Some rest) (Some after) r q next line h t k f = λ text reads.
    let is = h text reads in
    let cut : lines text ≡ is.read ++ line ∷ lines after = is.cut ∙ ap (λ (ls : List (List ℕ)). is.read ++ ls) t in
    let took = f text is.read (lines after) is.script cut is.run in
    let many : length (is.read ++ line ∷ []) ≡ suc (length is.read) = length_last is.read line in
    record {
      read = is.read ++ line ∷ [];
      script = took.0;
      run = took.1;
      cut = cut ∙ sym (append_assoc is.read (line ∷ []) (lines after));
      feeds = takes_more (Some text) (Some rest) (Some after) (length is.read) 1 (length (is.read ++ line ∷ [])) (omega (arith, many)) is.feeds k;
    }

pub still_stops : (before rest after : Option (List ℕ)) (r q : Run) (f : Finish) (line : List ℕ) → StillReads before rest r q → TakesLine rest after (Some line) → Feeds q line (Stops f) →
    IfSome before (λ rest. (text : List ℕ) → Reads text r rest → Finished text f)
still_stops None rest after r q f line h t feeds = tt
still_stops (Some before) None after r q f line h t feeds = absurd h
still_stops (Some before) (Some rest) None r q f line h t feeds = absurd t
still_stops (Some before) (Some rest) (Some after) r q f line h t feeds = λ text reads.
    let is = h text reads in
    feeds text is.read (lines after) is.script (is.cut ∙ ap (λ (ls : List (List ℕ)). is.read ++ ls) t) is.run

pub still_ends : (before rest after : Option (List ℕ)) (r q : Run) (f : Finish) → StillReads before rest r q → TakesLine rest after None → f.end ≡ Whole → f.run ≡ Some q →
    IfSome before (λ rest. (text : List ℕ) → Reads text r rest → Finished text f)
still_ends None rest after r q f h t e g = tt
still_ends (Some before) None after r q f h t e g = absurd h
still_ends (Some before) (Some rest) None r q f h t e g = absurd t
still_ends (Some before) (Some rest) (Some after) r q f h t e g = λ text reads.
    let is = h text reads in
    let cut : lines text ≡ is.read = is.cut ∙ ap (λ (bs : List ℕ). is.read ++ lines bs) t.0 ∙ append-nil is.read in
    ended text f Whole (Some q) e g (is.script, is.run.world, is.run.cluster, run_ends text is.read q is.script is.run cut, is.run.events, (is.run.lawful, is.run.within, cut ∙ is.run.lines))

-- the source failed after the lines that were read, none of which is outside
read_whole : (text rest : List ℕ) (left : Option (List ℕ)) (q : Run) → Reads text q rest → TakesFeeds 0 (Some rest) left → NoneOutside text left (IsOutsideAt text)
read_whole text rest None q is g = g
read_whole text rest (Some left) q is g =
    let same : length is.read + 0 ≤ length is.read = omega arith in
    let all = takes_more (Some text) (Some rest) (Some left) (length is.read) 0 (length is.read) same is.feeds g in
    let few : feeds all.0 ≤ length is.read = all.2 in (
      all.0,
      all.1,
      λ n le out.
          let here : n ≤ length is.read = omega (arith, le, few) in
          out.1.outside is.script is.run.lawful
          (ap (λ (ls : List (List ℕ)). take n ls) is.cut ∙ take_within is.read (lines rest) n here ∙ ap (λ (ls : List (List ℕ)). take n ls) is.run.lines),
    )

pub still_first : (before rest left : Option (List ℕ)) (r q : Run) → StillReads before rest r q → TakesFeeds 0 rest left → IfSome before (λ rest. (text : List ℕ) → Reads text r rest → NoneOutside text left (IsOutsideAt text))
still_first None rest left r q h g = tt
still_first (Some before) None left r q h g = absurd h
still_first (Some before) (Some rest) left r q h g = λ text reads. read_whole text rest left q (h text reads) g

-- The header.

header_alone : (h : Header) (n : ℕ) → take n (text_lines (opening h)) ≡ take n (header_lines h)
header_alone h n = ap (λ (ls : List (List ℕ)). take n ls) (append-nil (header_lines h))

-- the source failed in it
pub header_first : (none : List ℕ) (left after : Option (List ℕ)) → none ≡ [] → IfSome (ahead none left) (λ text. NoneOutside text after (IsNoLine (lines text))) → IfSome left (λ text. NoneOutside text after (IsOutsideAt text))
header_first none None after e h = tt
header_first none (Some text) after e h =
    none_outside text after (IsNoLine (lines text)) (IsOutsideAt text)
    (λ n out. no_line (lines text) (map line_text out.0.events) out.0.header n out.1.lawful.header out.1.line out.1.begins (λ f. out.1.outside (opening f.header) (opening_lawful f.header f.lawful) (f.same ∙ sym (header_alone f.header n))))
    (subst (λ (bs : List ℕ). NoneOutside (bs ++ text) after (IsNoLine (lines (bs ++ text)))) e h)

pub header_outside : (none : List ℕ) (left rest : Option (List ℕ)) (n : ℕ) (f : Finish) → none ≡ [] → Opened (ahead none left) rest (OutsideLine n) → f.end ≡ Outside n → f.run ≡ None → IfSome left (λ text. Finished text f)
header_outside none None rest n f e h g i = tt
header_outside none (Some text) None n f e h g i = absurd h
header_outside none (Some text) (Some rest) n f e h g i =
    let is = subst (λ (bs : List ℕ). Opened (Some (bs ++ text)) (Some rest) (OutsideLine n)) e h in
    ended text f (Outside n) None g i (refuses_header text n is.0 is.1)

pub header_opens : (none : List ℕ) (left rest : Option (List ℕ)) (h : Header) (r : Run) (result : Result Finish IoErr) → none ≡ [] → Opened (ahead none left) rest (Opens h) → TakesFeeds 3 (ahead none left) rest →
    IsHeader h → r.cluster ≡ h → KeepsWorld all_kinds r.world (start all_kinds h) → r.world.event ≡ 0 →
    IfSome rest (λ rest. (text : List ℕ) → Reads text r rest → IfOk result (Finished text)) → IfSome left (λ text. IfOk result (Finished text))
header_opens none None rest h r result e is took lawful cluster world events ends = tt
header_opens none (Some text) None h r result e is took lawful cluster world events ends = absurd is
header_opens none (Some text) (Some rest) h r result e is took lawful cluster world events ends =
    let cut = subst (λ (bs : List ℕ). Opened (Some (bs ++ text)) (Some rest) (Opens h)) e is in
    let feeds = subst (λ (bs : List ℕ). TakesFeeds 3 (Some (bs ++ text)) (Some rest)) e took in
    ends text (record { read = header_lines h; script = opening h; run = run_opens h r lawful cluster world events; cut = cut; feeds = feeds })

-- the source failed after a header
pub opens_first : (none : List ℕ) (left rest after : Option (List ℕ)) (h : Header) (r : Run) → none ≡ [] → Opened (ahead none left) rest (Opens h) → TakesFeeds 3 (ahead none left) rest →
    IsHeader h → r.cluster ≡ h → KeepsWorld all_kinds r.world (start all_kinds h) → r.world.event ≡ 0 →
    IfSome rest (λ rest. (text : List ℕ) → Reads text r rest → NoneOutside text after (IsOutsideAt text)) → IfSome left (λ text. NoneOutside text after (IsOutsideAt text))
opens_first none None rest after h r e is took lawful cluster world events first = tt
opens_first none (Some text) None after h r e is took lawful cluster world events first = absurd is
opens_first none (Some text) (Some rest) after h r e is took lawful cluster world events first =
    let cut = subst (λ (bs : List ℕ). Opened (Some (bs ++ text)) (Some rest) (Opens h)) e is in
    let feeds = subst (λ (bs : List ℕ). TakesFeeds 3 (Some (bs ++ text)) (Some rest)) e took in
    first text (record { read = header_lines h; script = opening h; run = run_opens h r lawful cluster world events; cut = cut; feeds = feeds })
