-- From the lines of a text to how its live run ends.
use Rattle.std.proofs.Common.{◌≡◌, ◌∙◌, ℕ, suc, ◌+◌, ◌≤◌, List, [], ◌∷◌, ◌++◌, length, map, take, refl, sym, ap, subst, append_assoc, arith, Some, None, Option, Result, IfOk, IfSome}
use Rattle.std.proofs.lemmas.List.{append-nil}
use Rattle.tg_base.specs.Clusters.{Header, IsHeader}
use Rattle.tg_script.specs.Headers.{header_lines}
use Rattle.tg_script.specs.Lines.{IsLine as IsLineOf}
use Rattle.tg_script.specs.declared.line.Line.{Line}
use Rattle.tg_lines.specs.Feeds.{feeds, NoneOutside, TakesFeeds}
use Rattle.tg_lines.specs.Lines.{lines, ahead, TakesLine}
use Rattle.tg_lines.specs.Openings.{Opened, IsNoLine}
use Rattle.tg_lines.proofs.Feeding.{takes_more}
use Rattle.tg_lines.proofs.Openings.{no_line, none_outside}
use Rattle.tg_lines.specs.declared.header.Opening.TheVariants.{Opens, Outside as OutsideLine}
use Rattle.tg_replay.specs.Runs.{Script, IsLine, line_text, text_lines}
use Rattle.tg_replay.proofs.Lists.{length_last, take_within}
use Rattle.tg_replay.specs.Stages.{status_of}
use Rattle.tg_replay.specs.declared.stages.End.{End}
use Rattle.tg_replay.specs.declared.stages.End.TheVariants.{Whole, Outside, Limited}
use Rattle.tg_live.specs.declared.live.Live.{Live as Kept}
use Rattle.tg_live.specs.declared.live.Went.{Went}
use Rattle.tg_live.specs.declared.stages.Running.{Running}
use Rattle.tg_live.specs.declared.stages.Finish.{Finish}
use Rattle.tg_live.specs.declared.stages.Fed.{Fed}
use Rattle.tg_live.specs.declared.stages.Fed.TheVariants.{Goes, Stops}
use Rattle.tg_live.specs.declared.stages.Stop.{Stop}
use Rattle.tg_live.specs.Lives.{IsFed, opened}
use Rattle.tg_live.specs.Kept.{Keeps, Made}
use Rattle.tg_live.specs.Scripts.{Over, IsLiveLine, IsOutsideAt}
use Rattle.tg_live.specs.Sends.{Carried}
use Rattle.tg_live.specs.Stages.{IsRunOf, Reads, Ends, Finished, Took, IsOutside, IsAfter, GoesOnKept, CountsOn, Handed, over, StillReads, Feeds, EndsSo}
use Rattle.tg_live.proofs.Scripts.{longer, later, opening, opening_lawful, run_opens, run_goes_on, run_ends, run_limited, refuses_event, refuses_header}

-- how reading has ended, from its status and its run
pub ended : (o : Over) (text : List ℕ) (f : Finish) (end : End) (k : Option Kept) → f.end ≡ end → f.live ≡ k → Ends o text (status_of end) k → Finished o text f
ended o text f end k e g h = subst (λ (x : End). Ends o text (status_of x) f.live) (sym e) (subst (λ (y : Option Kept). Ends o text (status_of end) y) (sym g) h)

-- What a text spells, as a line below a header.

pub line_of : (h : Header) (text : List ℕ) (l : Line) → IsLineOf h text l → IsLine h l
line_of h text l is = record { fits = is.fits; short = subst (λ (t : List ℕ). length t ≤ 8192) is.spelled is.short }

pub text_of_line : (h : Header) (text : List ℕ) (l : Line) → IsLine h l → text ≡ line_text l → IsLineOf h text l
text_of_line h text l is e = record { spelled = e; fits = is.fits; short = subst (λ (t : List ℕ). length t ≤ 8192) (sym e) is.short }

-- a line that no script has next
pub outside_took : (o : Over) (text line : List ℕ) (read more : List (List ℕ)) (r : Running) (s : Script) (f : Fed) → IsRunOf o read r s → lines text ≡ read ++ line ∷ more →
    ((m : Line) → IsLiveLine s.header m → line ≡ line_text m → ⊥) → IsOutside r f → Took o text (read ++ line ∷ []) f
outside_took o text line read more r s (Goes q) h cut none m = absurd m
outside_took o text line read more r s (Stops f) h cut none m =
    ended o text f (Outside (4 + r.lines)) (Some r.live) m.0 m.1 (s.header, h.live, h.kept, refuses_event o text line read more r s h cut none (4 + r.lines) (ap (λ n. 4 + n) h.count))

pub outside_kept : (r : Running) (f : Fed) → IsOutside r f → GoesOnKept f
outside_kept r (Goes q) m = absurd m
outside_kept r (Stops f) m = tt

pub outside_counts : (n : ℕ) (r : Running) (f : Fed) → IsOutside r f → CountsOn n f
outside_counts n r (Goes q) m = absurd m
outside_counts n r (Stops f) m = tt

-- what is made of a line
pub made_took : (o : Over) (text line : List ℕ) (read more : List (List ℕ)) (r : Running) (s : Script) (l : Line) (f : Fed) (h : IsRunOf o read r s) → (handed : Handed) (now : Carried) (w : Went)
    → lines text ≡ read ++ line ∷ more → IsLiveLine s.header l → line ≡ line_text l → ((m : Line) → IsLiveLine s.header m → line ≡ line_text m → m ≡ l)
    → Made (IsFed l) s.header o.carried now o.handed_after handed h.live w → IsAfter r w f → Took (later o handed now) text (read ++ line ∷ []) f
made_took o text line read more r s l (Goes q) h handed now w cut is spelled one made a =
    (longer s l, subst (λ (x : Running). IsRunOf (later o handed now) (read ++ line ∷ []) x (longer s l)) (sym a.1) (run_goes_on o read r s line l h handed now w is spelled one made a.0))
made_took o text line read more r s l (Stops f) h handed now w cut is spelled one made a =
    ended (later o handed now) text f (Limited a.0) (Some w.live) a.2 a.3 (s.header, made.end.live, made.kept.live, run_limited o text line read more r s l a.0 h handed now w cut is spelled made a.1)

-- Line by line.

pub still_none : (before : Option (List ℕ)) (r : Running) (a : Handed) (c : Carried) → StillReads before before r r a a c c
still_none None r a c = tt
still_none (Some rest) r a c = λ handed now text h. h

pub still_more : (before rest after : Option (List ℕ)) (r q next : Running) (line : List ℕ) (a b c : Handed) (x y z : Carried) → StillReads before rest r q a b x y → TakesLine rest after (Some line) → TakesFeeds 1 rest after → Feeds q line b c y z (Goes next) → StillReads before after r next a c x z
still_more None rest after r q next line a b c x y z h t k f = tt
still_more (Some before) None after r q next line a b c x y z h t k f = absurd h
still_more (Some before) (Some rest) None r q next line a b c x y z h t k f = t
still_more (Some before) (Some rest) (Some after) r q next line a b c x y z h t k f = λ handed now text reads.
    let is = h handed now text reads in
    let cut : lines text ≡ is.read ++ line ∷ lines after = is.cut ∙ ap (λ (ls : List (List ℕ)). is.read ++ ls) t in
    let took = f handed now text is.read (lines after) is.script cut is.run in
    let many : length (is.read ++ line ∷ []) ≡ suc (length is.read) = length_last is.read line in
    record {
      read = is.read ++ line ∷ [];
      script = took.0;
      run = took.1;
      cut = cut ∙ sym (append_assoc is.read (line ∷ []) (lines after));
      feeds = takes_more (Some text) (Some rest) (Some after) (length is.read) 1 (length (is.read ++ line ∷ [])) (omega (arith, many)) is.feeds k;
    }

pub still_stops : (before rest after : Option (List ℕ)) (r q : Running) (f : Finish) (line : List ℕ) (a b c : Handed) (x y z : Carried) → StillReads before rest r q a b x y → TakesLine rest after (Some line) → Feeds q line b c y z (Stops f) →
    IfSome before (λ rest. EndsSo r rest a c x z f)
still_stops None rest after r q f line a b c x y z h t feeds = tt
still_stops (Some before) None after r q f line a b c x y z h t feeds = absurd h
still_stops (Some before) (Some rest) None r q f line a b c x y z h t feeds = absurd t
still_stops (Some before) (Some rest) (Some after) r q f line a b c x y z h t feeds = λ handed now text reads.
    let is = h handed now text reads in
    feeds handed now text is.read (lines after) is.script (is.cut ∙ ap (λ (ls : List (List ℕ)). is.read ++ ls) t) is.run

pub still_ends : (before rest after : Option (List ℕ)) (r q : Running) (f : Finish) (a b : Handed) (x y : Carried) → StillReads before rest r q a b x y → TakesLine rest after None → f.end ≡ Whole → f.live ≡ Some q.live →
    IfSome before (λ rest. EndsSo r rest a b x y f)
still_ends None rest after r q f a b x y h t e g = tt
still_ends (Some before) None after r q f a b x y h t e g = absurd h
still_ends (Some before) (Some rest) None r q f a b x y h t e g = absurd t
still_ends (Some before) (Some rest) (Some after) r q f a b x y h t e g = λ handed now text reads.
    let is = h handed now text reads in
    let cut : lines text ≡ is.read = is.cut ∙ ap (λ (bs : List ℕ). is.read ++ lines bs) t.0 ∙ append-nil is.read in
    ended (over handed b now y) text f Whole (Some q.live) e g (is.script.header, is.run.live, is.run.kept, run_ends (over handed b now y) text is.read q is.script is.run cut)

-- the source failed after the lines that were read, none of which is outside
read_whole : (o : Over) (text rest : List ℕ) (left : Option (List ℕ)) (q : Running) → Reads o text q rest → TakesFeeds 0 (Some rest) left → NoneOutside text left (IsOutsideAt text)
read_whole o text rest None q is g = g
read_whole o text rest (Some left) q is g =
    let same : length is.read + 0 ≤ length is.read = omega arith in
    let all = takes_more (Some text) (Some rest) (Some left) (length is.read) 0 (length is.read) same is.feeds g in
    let few : feeds all.0 ≤ length is.read = all.2 in (
      all.0,
      all.1,
      λ n le out.
          let here : n ≤ length is.read = omega (arith, le, few) in
          out.1.outside is.script is.run.lawful
          (ap (λ (ls : List (List ℕ)). take n ls) is.cut ∙ take_within is.read (lines rest) n here ∙ ap (λ (ls : List (List ℕ)). take n ls) is.run.lines),
    )

pub still_first : (before rest left : Option (List ℕ)) (r q : Running) (a b : Handed) (x y : Carried) → StillReads before rest r q a b x y → TakesFeeds 0 rest left
    → IfSome before (λ rest. (handed : Handed) (now : Carried) (text : List ℕ) → Reads (over handed a now x) text r rest → NoneOutside text left (IsOutsideAt text))
still_first None rest left r q a b x y h g = tt
still_first (Some before) None left r q a b x y h g = absurd h
still_first (Some before) (Some rest) left r q a b x y h g = λ handed now text reads. read_whole (over handed b now y) text rest left q (h handed now text reads) g

-- The header.

header_alone : (h : Header) (n : ℕ) → take n (text_lines (opening h)) ≡ take n (header_lines h)
header_alone h n = ap (λ (ls : List (List ℕ)). take n ls) (append-nil (header_lines h))

-- the source failed in it
pub header_first : (none : List ℕ) (left after : Option (List ℕ)) → none ≡ [] → IfSome (ahead none left) (λ text. NoneOutside text after (IsNoLine (lines text))) → IfSome left (λ text. NoneOutside text after (IsOutsideAt text))
header_first none None after e h = tt
header_first none (Some text) after e h =
    none_outside text after (IsNoLine (lines text)) (IsOutsideAt text)
    (λ n out. no_line (lines text) (map line_text out.0.events) out.0.header n out.1.lawful.header out.1.line out.1.begins (λ f. out.1.outside (opening f.header) (opening_lawful f.header f.lawful) (f.same ∙ sym (header_alone f.header n))))
    (subst (λ (bs : List ℕ). NoneOutside (bs ++ text) after (IsNoLine (lines (bs ++ text)))) e h)

-- and so did it after a header
pub opens_first : (none : List ℕ) (left rest after : Option (List ℕ)) (h : Header) (r : Running) (a : Handed) (x : Carried) → none ≡ [] → Opened (ahead none left) rest (Opens h) → TakesFeeds 3 (ahead none left) rest → IsHeader h → Keeps h x x r.live (opened h) → r.lines ≡ 0
    → IfSome rest (λ rest. (handed : Handed) (now : Carried) (text : List ℕ) → Reads (over handed a now x) text r rest → NoneOutside text after (IsOutsideAt text)) → IfSome left (λ text. NoneOutside text after (IsOutsideAt text))
opens_first none None rest after h r a x e is took lawful kept count first = tt
opens_first none (Some text) None after h r a x e is took lawful kept count first = absurd is
opens_first none (Some text) (Some rest) after h r a x e is took lawful kept count first =
    let cut = subst (λ (bs : List ℕ). Opened (Some (bs ++ text)) (Some rest) (Opens h)) e is in
    let feeds = subst (λ (bs : List ℕ). TakesFeeds 3 (Some (bs ++ text)) (Some rest)) e took in
    first a x text (record { read = header_lines h; script = opening h; run = run_opens (over a a x x) h r lawful refl kept count; cut = cut; feeds = feeds })

pub header_outside : (none : List ℕ) (left rest : Option (List ℕ)) (n : ℕ) (f : Finish) (a b : Handed) (x y : Carried) → none ≡ [] → Opened (ahead none left) rest (OutsideLine n) → f.end ≡ Outside n → f.live ≡ None → b ≡ a → y ≡ x
    → IfSome left (λ text. Finished (over a b x y) text f)
header_outside none None rest n f a b x y e h g i took sends = tt
header_outside none (Some text) None n f a b x y e h g i took sends = absurd h
header_outside none (Some text) (Some rest) n f a b x y e h g i took sends =
    let is = subst (λ (bs : List ℕ). Opened (Some (bs ++ text)) (Some rest) (OutsideLine n)) e h in
    ended (over a b x y) text f (Outside n) None g i (refuses_header (over a b x y) text n is.0 is.1 took sends)

pub header_opens : (none : List ℕ) (left rest : Option (List ℕ)) (h : Header) (r : Running) (result : Result Finish Stop) (a b : Handed) (x y : Carried) → none ≡ [] → Opened (ahead none left) rest (Opens h) → TakesFeeds 3 (ahead none left) rest →
    IsHeader h → Keeps h x x r.live (opened h) → r.lines ≡ 0 →
    IfSome rest (λ rest. (handed : Handed) (now : Carried) (text : List ℕ) → Reads (over handed a now x) text r rest → IfOk result (Finished (over handed b now y) text)) → IfSome left (λ text. IfOk result (Finished (over a b x y) text))
header_opens none None rest h r result a b x y e is took lawful kept count ends = tt
header_opens none (Some text) None h r result a b x y e is took lawful kept count ends = absurd is
header_opens none (Some text) (Some rest) h r result a b x y e is took lawful kept count ends =
    let cut = subst (λ (bs : List ℕ). Opened (Some (bs ++ text)) (Some rest) (Opens h)) e is in
    let feeds = subst (λ (bs : List ℕ). TakesFeeds 3 (Some (bs ++ text)) (Some rest)) e took in
    ends a x text (record { read = header_lines h; script = opening h; run = run_opens (over a a x x) h r lawful refl kept count; cut = cut; feeds = feeds })
