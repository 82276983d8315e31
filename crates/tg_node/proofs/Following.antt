-- A session goes on by a line, or ends at it.
use Rattle.std.proofs.Common.{◌≡◌, ℕ, zero, suc, ◌+◌, ◌-◌, ◌≤◌, List, [], ◌∷◌, ◌++◌, length, take, drop, Option, Some, None, sym, refl, subst, ap, ◌∙◌, arith, inl, inr}
use Rattle.std.specs.Prelude.{MatchOption}
use Rattle.std.proofs.lemmas.List.{append_assoc, append-nil}
use Rattle.tg_base.specs.Clusters.{Header, IsHeader}
use Rattle.tg_base.specs.declared.fault.Which.{Which}
use Rattle.tg_base.specs.declared.fault.Which.TheVariants as which
use Rattle.tg_base.specs.declared.ids.NodeId.{NodeId}
use Rattle.tg_io.specs.Acts.{Act}
use Rattle.tg_io.specs.Bytes.{Grows, Takes, TakesFront}
use Rattle.tg_io.specs.declared.link.Arrival.{Arrival}
use Rattle.tg_io.specs.declared.link.Sent.{Sent}
use Rattle.tg_io.specs.declared.status.Status.TheVariants as status
use Rattle.tg_io.proofs.Bytes.{grows_more}
use Rattle.tg_lines.specs.Lines.{lines}
use Rattle.tg_script.specs.Headers.{header_lines}
use Rattle.tg_script.proofs.Clusters.{same_header}
use Rattle.tg_node.specs.Lines.{IsAsked}
use Rattle.tg_node.specs.Replies.{replies_text}
use Rattle.tg_node.specs.declared.asked.Asked.{Asked}
use Rattle.tg_node.specs.declared.asked.Asked.TheVariants.{Tick, Wait, Given, Update}
use Rattle.tg_node_state.specs.Kept.{KeepsNode}
use Rattle.tg_node.specs.Acts.{line_acts}
use Rattle.tg_any.specs.AllKinds.{all_kinds}
use Rattle.tg_node.specs.Sessions.{AnyInput, Deed, Session, IsWhole, inputs_by, inputs_of, datagrams_in, answers_of, steps_of, datagrams_of, plays, plays_lines, opening}
use Rattle.tg_node.specs.Texts.{Seen, IsSeen, AreAsked, NodeText, text_lines, IsText, Begins, FirstOutside, AreDone, Point, session_at, answers_at, acts_at, line_session, acts_by, Followed, IsPart, IsPast, IsOver, Midst, Limited, IsEnded, IsCutBetween, IsCutInLine, IsCutInReplies}
use Rattle.tg_node.specs.Steps.{Stands, BreaksLine, EndsLine, TookLine}
use Rattle.tg_node.specs.Stages.{seen, Follows, Follow, IsWritten, IsRefused}
use Rattle.tg_node.specs.declared.nodes.Node.{Node}
use Rattle.tg_node.specs.declared.nodes.Moved.{Moved}
use Rattle.tg_node.specs.declared.stages.Run.{Run}
use Rattle.tg_node.specs.declared.stages.Next.{Next}
use Rattle.tg_node.specs.declared.stages.Next.TheVariants.{Goes as GoesOn, Ends}
use Rattle.tg_node.proofs.Doing.{take_all, lines_more as acts_more}
use Rattle.tg_node.proofs.Stepping.{take_before, datagrams_both}

-- One line more.

many_more : {X : Type 0} (xs : List X) (x : X) → length (xs ++ x ∷ []) ≡ suc (length xs)
many_more [] x = refl
many_more (y ∷ xs) x = ap suc (many_more xs x)

steps_more : (n : NodeId) (ds : List Deed) (d : Deed) → steps_of n (ds ++ d ∷ []) ≡ steps_of n ds + length (inputs_of n d)
steps_more n [] d = omega arith
steps_more n (x ∷ ds) d = let e : steps_of n (ds ++ d ∷ []) ≡ steps_of n ds + length (inputs_of n d) = steps_more n ds d in omega (arith, e)

answers_more : (ds : List Deed) (d : Deed) → answers_of (ds ++ d ∷ []) ≡ answers_of ds ++ d.answers
answers_more [] d = append-nil d.answers
answers_more (x ∷ ds) d = ap (λ (l : List (Option Arrival)). x.answers ++ l) (answers_more ds d) ∙ sym (append_assoc x.answers (answers_of ds) d.answers)

datagrams_more : (ds : List Deed) (d : Deed) → datagrams_of (ds ++ d ∷ []) ≡ datagrams_of ds + datagrams_in d.answers
datagrams_more ds d = ap datagrams_in (answers_more ds d) ∙ datagrams_both (answers_of ds) d.answers

lines_more : (n : NodeId) (event : ℕ) (ds : List Deed) (d : Deed) (s : Session) → plays_lines n event (ds ++ d ∷ []) s ≡ plays n (event + length ds) (inputs_of n d) (plays_lines n event ds s)
lines_more n event [] d s = let e : event ≡ event + 0 = omega arith in ap (λ (k : ℕ). plays n k (inputs_of n d) s) e
lines_more n event (x ∷ ds) d s =
    let e : suc event + length ds ≡ event + suc (length ds) = omega arith in
    lines_more n (suc event) ds d (plays n event (inputs_of n x) s) ∙ ap (λ (k : ℕ). plays n k (inputs_of n d) (plays_lines n (suc event) ds (plays n event (inputs_of n x) s))) e

done_more : (h : Header) (n : NodeId) (ts : List (List ℕ)) (ds : List Deed) (t : List ℕ) (d : Deed) → AreDone h n ts ds → IsAsked h n t d.asked → IsWhole d.asked d.answers → AreDone h n (ts ++ t ∷ []) (ds ++ d ∷ [])
done_more h n [] [] t d a is whole = (is, whole, tt)
done_more h n [] (x ∷ ds) t d a is whole = absurd a
done_more h n (s ∷ ts) [] t d a is whole = absurd a
done_more h n (s ∷ ts) (x ∷ ds) t d a is whole = (a.0, a.1, done_more h n ts ds t d a.2 is whole)

-- A line that a run has taken.

-- the point after a whole line
pub record NextPoint {text : List ℕ} {n : NodeId} (p : Point text n) (d : Deed) (more : List (List ℕ)) : Type 0 where
  pub point : Point text n
  pub left : point.rest ≡ more
  pub header : point.header ≡ p.header
  pub deeds : point.deeds ≡ p.deeds ++ d ∷ []
  pub comes : session_at point ≡ line_session p d
  pub acts : acts_at point ≡ acts_at p ++ acts_by p d

next_point : {text : List ℕ} {n : NodeId} (p : Point text n) (line : List ℕ) (more : List (List ℕ)) (d : Deed) → p.rest ≡ line ∷ more → IsAsked p.header n line d.asked → IsWhole d.asked d.answers → steps_of n p.deeds + length (inputs_of n d) ≤ 200000
    → datagrams_of p.deeds + datagrams_in d.answers ≤ 1000000 → NextPoint p d more
next_point {text} {n} p line more d next is whole few fewer =
    let head = header_lines p.header in
    record {
      point = record {
        header = p.header;
        lawful = p.lawful;
        declared = p.declared;
        read = p.read ++ line ∷ [];
        rest = more;
        deeds = p.deeds ++ d ∷ [];
        cut = p.cut ∙ ap (λ (x : List (List ℕ)). head ++ (p.read ++ x)) next ∙ ap (λ (x : List (List ℕ)). head ++ x) (sym (append_assoc p.read (line ∷ []) more));
        done = done_more p.header n p.read p.deeds line d p.done is whole;
        few = let e : steps_of n (p.deeds ++ d ∷ []) ≡ steps_of n p.deeds + length (inputs_of n d) = steps_more n p.deeds d in omega (arith, e, few);
        fewer = let e : datagrams_of (p.deeds ++ d ∷ []) ≡ datagrams_of p.deeds + datagrams_in d.answers = datagrams_more p.deeds d in omega (arith, e, fewer);
      };
      left = refl;
      header = refl;
      deeds = refl;
      acts = acts_more n p.deeds d (opening p.header n);
      comes = lines_more n 1 p.deeds d (opening p.header n)
          ∙ ap (λ (x : List AnyInput). plays n (1 + length p.deeds) x (session_at p)) (sym (take_all (inputs_of n d) (200000 - steps_of n p.deeds) (omega (arith, few))));
    }

-- a session of which the replies so far are written
pub stands_at : (text : List ℕ) (before now : Seen) (r : Run) (rest : List (List ℕ)) (f : Follows text before now r rest) → Stands before.sent (replies_text (session_at f.point).replies) r.node now.sent (session_at f.point)
stands_at text before now r rest f = record {
  node = f.keeps;
  sent = f.seen.sent;
  replies = sym (append-nil (replies_text (session_at f.point).replies)) ∙ ap (λ (x : List ℕ). replies_text (session_at f.point).replies ++ x) (sym f.none);
}

-- what was seen, where the replies of a line were written
seen_more : (before now : Seen) (k : Node) (s t : Session) (came_all bs : List (Option Arrival)) (made more : List Act) (sent : Option (List Sent)) (handed : Option (List (Option Arrival))) (acts : Option (List Act)) (written : Option (List ℕ)) → IsSeen s came_all made before now
    → Stands before.sent (replies_text s.replies) k sent t → Grows now.handed bs handed → Grows now.acts more acts → Takes now.written k.replies written → IsSeen t (came_all ++ bs) (made ++ more) before (seen sent handed acts written)
seen_more before now k s t came_all bs made more sent handed acts written h st grown done takes = record {
  sent = st.sent;
  handed = grows_more before.handed now.handed handed came_all bs h.handed grown;
  acts = grows_more before.acts now.acts acts made more h.acts done;
  written = subst (λ (x : List ℕ). Takes before.written x written) (sym st.replies) (grows_more before.written now.written written (replies_text s.replies) k.replies h.written takes);
}

-- cut off before a line is begun
pub cut_here : (text : List ℕ) (before now : Seen) (r : Run) (rest : List (List ℕ)) → Follows text before now r rest → IsCutBetween text r.id before (seen now.sent now.handed now.acts now.written)
cut_here text before now r rest f = inr (f.point, record { sent = f.seen.sent; handed = f.seen.handed; acts = f.seen.acts; written = f.seen.written })

-- cut off in the midst of a line, of which nothing was written
pub line_cut : (text : List ℕ) (before now : Seen) (r : Run) (line : List ℕ) (more : List (List ℕ)) (asked : Asked) (event : ℕ) (sent : Option (List Sent)) (handed : Option (List (Option Arrival))) (acts : Option (List Act)) → Follows text before now r (line ∷ more) → IsAsked r.cluster r.id line asked
    → event ≡ r.lines + 1 → BreaksLine (record { node = r.id; event = event }) asked r.node now.sent now.acts acts → IsCutInLine text r.id before (seen sent handed acts now.written)
line_cut text before now r line more asked event sent handed acts f is at b =
    let s = session_at f.point in
    let cut = b.breaks before.sent (replies_text s.replies) s (stands_at text before now r (line ∷ more) f) in
    let number : 1 + length f.point.deeds ≡ event = let l : r.lines ≡ length f.point.deeds = f.lines in omega (arith, at, l) in (
      f.point,
      now,
      f.seen,
      record {
        deed = record { asked = asked; answers = b.answers };
        line = record { line = line; more = more; next = f.left; asked = subst (λ (h : Header). IsAsked h r.id line asked) f.header is; part = b.part };
        done = cut.0;
        rest = cut.1;
        cut = ap (λ (k : ℕ). line_acts r.id k (200000 - steps_of r.id f.point.deeds) asked b.answers s) number
            ∙ ap (λ (j : ℕ). line_acts r.id event (200000 - j) asked b.answers s) (sym f.steps) ∙ cut.2;
        handed = cut.3;
        acts = cut.4;
        written = refl;
      },
    )

-- a wait that had all its answers had no more
whole_part : (a : Asked) (answers : List (Option Arrival)) → IsWhole a answers → IsPart a answers
whole_part (Wait calls) answers whole = omega (arith, whole)
whole_part Tick answers whole = whole
whole_part (Given c) answers whole = whole
whole_part (Update oid op) answers whole = whole

module _ (text : List ℕ) (before now : Seen) (r : Run) (line : List ℕ) (more : List (List ℕ)) (asked : Asked) (event : ℕ) (m : Moved) (sent : Option (List Sent)) (handed : Option (List (Option Arrival))) (acts : Option (List Act)) (f : Follows text before now r (line ∷ more))
    (is : IsAsked r.cluster r.id line asked) (at : event ≡ r.lines + 1) (took : TookLine (record { node = r.id; event = event }) asked now.handed r.node now.sent m handed sent now.acts acts) where
  asked_here : IsAsked f.point.header r.id line asked
  asked_here = subst (λ (h : Header). IsAsked h r.id line asked) f.header is

  -- the session after the line
  after_line : Stands before.sent (replies_text (session_at f.point).replies) m.node sent (line_session f.point (record { asked = asked; answers = took.answers }))
  after_line =
      let s = session_at f.point in
      let inputs = inputs_by r.id asked took.answers in
      let number : event ≡ 1 + length f.point.deeds = let l : r.lines ≡ length f.point.deeds = f.lines in omega (arith, at, l) in
      subst (λ (j : ℕ). Stands before.sent (replies_text s.replies) m.node sent (plays r.id (1 + length f.point.deeds) (take (200000 - j) inputs) s)) f.steps
      (subst (λ (k : ℕ). Stands before.sent (replies_text s.replies) m.node sent (plays r.id k (take (200000 - r.node.steps) inputs) s)) number
      (took.takes.goes before.sent (replies_text s.replies) s (stands_at text before now r (line ∷ more) f)))

  -- what the line did with the link
  acts_here : Grows now.acts (acts_by f.point (record { asked = asked; answers = took.answers })) acts
  acts_here =
      let s = session_at f.point in
      let number : event ≡ 1 + length f.point.deeds = let l : r.lines ≡ length f.point.deeds = f.lines in omega (arith, at, l) in
      subst (λ (j : ℕ). Grows now.acts (line_acts r.id (1 + length f.point.deeds) (200000 - j) asked took.answers s) acts) f.steps
      (subst (λ (k : ℕ). Grows now.acts (line_acts r.id k (200000 - r.node.steps) asked took.answers s) acts) number
      (took.does before.sent (replies_text s.replies) s (stands_at text before now r (line ∷ more) f)))

  next_here : IsWhole asked took.answers → m.node.steps ≡ r.node.steps + length (inputs_by r.id asked took.answers) → NextPoint f.point (record { asked = asked; answers = took.answers }) more
  next_here whole made =
      let e : r.node.steps ≡ steps_of r.id f.point.deeds = f.steps in
      let low : m.node.steps ≤ 200000 = took.takes.sound.steps in
      let g : r.node.received ≡ datagrams_of f.point.deeds = f.received in
      let got : m.node.received ≡ r.node.received + datagrams_in took.answers = took.takes.received in
      let few : m.node.received ≤ 1000000 = took.takes.sound.received in
      next_point f.point line more (record { asked = asked; answers = took.answers }) f.left asked_here whole (omega (arith, e, low, made)) (omega (arith, g, got, few))

  over_here : (w : Which) → EndsLine asked took.answers (r.node.steps + length (inputs_by r.id asked took.answers)) (r.node.received + datagrams_in took.answers) (Some w) m.node.steps
      → IsPart asked took.answers × IsOver w (record { asked = asked; answers = took.answers }) (steps_of r.id f.point.deeds + length (inputs_by r.id asked took.answers)) (datagrams_of f.point.deeds + datagrams_in took.answers)
  over_here which.Steps ends = (ends.0, subst (λ (k : ℕ). IsPast asked (k + length (inputs_by r.id asked took.answers))) f.steps ends.1)
  over_here which.Datagrams ends =
      let e : r.node.steps ≡ steps_of r.id f.point.deeds = f.steps in
      let low : m.node.steps ≤ 200000 = took.takes.sound.steps in
      let made : m.node.steps ≡ r.node.steps + length (inputs_by r.id asked took.answers) = ends.3 in
      (ends.0, (subst (λ (k : ℕ). k + datagrams_in took.answers ≡ 1000000) f.received ends.2, omega (arith, e, low, made), ends.1))
  over_here which.Bytes ends = absurd ends

  abbrev midst_here : (w : Which) → EndsLine asked took.answers (r.node.steps + length (inputs_by r.id asked took.answers)) (r.node.received + datagrams_in took.answers) (Some w) m.node.steps → Midst text r.id w
  midst_here w ends = record {
    point = f.point;
    line = line;
    more = more;
    next = f.left;
    last = record { asked = asked; answers = took.answers };
    asked = asked_here;
    part = (over_here w ends).0;
    over = (over_here w ends).1;
  }

  ended_here : (o : Option Which) → EndsLine asked took.answers (r.node.steps + length (inputs_by r.id asked took.answers)) (r.node.received + datagrams_in took.answers) o m.node.steps → IsPart asked took.answers × IsEnded f.point (record { asked = asked; answers = took.answers })
  ended_here None ends = (whole_part asked took.answers ends.0, inl ends.0)
  ended_here (Some w) ends = let over = over_here w ends in (over.0, inr (w, over.1))

  -- the replies of the line were written in part
  front_here : (written : Option (List ℕ)) → TakesFront now.written m.node.replies written → IsCutInReplies text r.id before (seen sent handed acts written)
  front_here written front =
      let ended = ended_here m.stopped took.takes.ends in (
        f.point,
        now,
        f.seen,
        record {
          deed = record { asked = asked; answers = took.answers };
          line = record { line = line; more = more; next = f.left; asked = asked_here; part = ended.0 };
          ended = ended.1;
          sent = after_line.sent;
          handed = took.grown;
          acts = acts_here;
          replies = m.node.replies;
          whole = after_line.replies;
          front = front;
        },
      )

  -- a limit is passed
  limited_here : (w : Which) (written : Option (List ℕ)) → m.stopped ≡ Some w → Takes now.written m.node.replies written → Limited text r.id w before (seen sent handed acts written)
  limited_here w written e takes =
      let ends = subst (λ (o : Option Which). EndsLine asked took.answers (r.node.steps + length (inputs_by r.id asked took.answers)) (r.node.received + datagrams_in took.answers) o m.node.steps) e took.takes.ends in
      record {
        midst = midst_here w ends;
        seen = seen_more before now m.node (session_at f.point) (line_session f.point (record { asked = asked; answers = took.answers })) (answers_at f.point) took.answers (acts_at f.point) (acts_by f.point (record { asked = asked; answers = took.answers })) sent handed acts written f.seen after_line took.grown acts_here takes;
      }

  -- the run goes on
  goes_here : (written : Option (List ℕ)) → m.stopped ≡ None → Takes now.written m.node.replies written
      → Follows text before (seen sent handed acts written) (record { id = r.id; cluster = r.cluster; lines = event; node = record { own = m.node.own; steps = m.node.steps; received = m.node.received; replies = [] } }) more
  goes_here written e takes =
      let ends = subst (λ (o : Option Which). EndsLine asked took.answers (r.node.steps + length (inputs_by r.id asked took.answers)) (r.node.received + datagrams_in took.answers) o m.node.steps) e took.takes.ends in
      let next = next_here ends.0 ends.1 in
      let d : Deed = record { asked = asked; answers = took.answers } in
      let all = f.point.deeds ++ d ∷ [] in
      let l : r.lines ≡ length f.point.deeds = f.lines in
      let many : length next.point.deeds ≡ suc (length f.point.deeds) = ap length next.deeds ∙ many_more f.point.deeds d in
      let made : m.node.steps ≡ r.node.steps + length (inputs_by r.id asked took.answers) = ends.1 in
      let steps_then : steps_of r.id next.point.deeds ≡ steps_of r.id f.point.deeds + length (inputs_by r.id asked took.answers) = ap (steps_of r.id) next.deeds ∙ steps_more r.id f.point.deeds d in
      let datagrams_then : datagrams_of next.point.deeds ≡ datagrams_of f.point.deeds + datagrams_in took.answers = ap datagrams_of next.deeds ∙ datagrams_more f.point.deeds d in
      let answers_then : answers_at next.point ≡ answers_at f.point ++ took.answers = ap answers_of next.deeds ∙ answers_more f.point.deeds d in
      let e1 : r.node.steps ≡ steps_of r.id f.point.deeds = f.steps in
      let e2 : r.node.received ≡ datagrams_of f.point.deeds = f.received in
      let got : m.node.received ≡ r.node.received + datagrams_in took.answers = took.takes.received in
      let seen_then = seen_more before now m.node (session_at f.point) (line_session f.point (record { asked = asked; answers = took.answers })) (answers_at f.point) took.answers (acts_at f.point) (acts_by f.point (record { asked = asked; answers = took.answers })) sent handed acts written f.seen after_line took.grown acts_here takes in
      record {
        point = next.point;
        left = next.left;
        header = f.header ∙ sym next.header;
        lines = omega (arith, at, l, many);
        steps = omega (arith, made, steps_then, e1);
        received = omega (arith, got, datagrams_then, e2);
        none = refl;
        keeps = subst (λ (s : Session). KeepsNode all_kinds m.node.steps m.node.own s.node) (sym next.comes) after_line.node;
        seen = subst (λ (s : Session). IsSeen s (answers_at next.point) (acts_at next.point) before (seen sent handed acts written)) (sym next.comes)
            (subst (λ (l : List Act). IsSeen (line_session f.point d) (answers_at next.point) l before (seen sent handed acts written)) (sym next.acts)
            (subst (λ (came_all : List (Option Arrival)). IsSeen (line_session f.point d) came_all (acts_at f.point ++ acts_by f.point d) before (seen sent handed acts written)) (sym answers_then) seen_then));
      }

  pub line_follows : (written : Option (List ℕ)) (x : Next) → IsWritten r.id r.cluster event m now.written written x → Follow text r.id before (seen sent handed acts written) more x
  line_follows written (GoesOn q) w =
      (ap (λ (y : Run). y.id) w.1, subst (λ (y : Run). Follows text before (seen sent handed acts written) y more) (sym w.1) (goes_here written w.0 w.2))
  line_follows written (Ends (status.Limit w)) h = limited_here w written h.0 h.1
  line_follows written (Ends status.WriteFault) h = front_here written h
  line_follows written (Ends status.NoMemory) h = inr (inr (front_here written h))
  line_follows written (Ends status.Done) h = absurd h
  line_follows written (Ends (status.Illegal l c)) h = absurd h
  line_follows written (Ends status.Words) h = absurd h
  line_follows written (Ends (status.Script l)) h = absurd h
  line_follows written (Ends status.ReadFault) h = absurd h
  line_follows written (Ends status.LinkFault) h = absurd h

-- The first line outside, after the lines of a point.

-- the parts of a text are those of its header and the lines after it
pub same_parts : (text : List ℕ) (a b : Header) (xs ys : List (List ℕ)) → IsHeader a → IsHeader b → lines text ≡ header_lines a ++ xs → lines text ≡ header_lines b ++ ys → (a ≡ b) × (xs ≡ ys)
same_parts text a b xs ys lawful also e f =
    let same : header_lines a ++ xs ≡ header_lines b ++ ys = sym e ∙ f in
    (same_header a b lawful also (header_lines a) refl (ap (λ (ls : List (List ℕ)). take 3 ls) same), ap (λ (ls : List (List ℕ)). drop 3 ls) same)

each_asked : (h : Header) (n : NodeId) (ts : List (List ℕ)) (ds : List Deed) → AreDone h n ts ds → AreAsked h n ts
each_asked h n [] [] done = tt
each_asked h n (t ∷ ts) (d ∷ ds) done = ((d.asked, done.0), each_asked h n ts ds done.2)
each_asked h n [] (d ∷ ds) done = absurd done
each_asked h n (t ∷ ts) [] done = absurd done

pub many_done : (h : Header) (n : NodeId) (ts : List (List ℕ)) (ds : List Deed) → AreDone h n ts ds → length ts ≡ length ds
many_done h n [] [] done = refl
many_done h n (t ∷ ts) (d ∷ ds) done = ap suc (many_done h n ts ds done.2)
many_done h n [] (d ∷ ds) done = absurd done
many_done h n (t ∷ ts) [] done = absurd done

-- the text that ends at a point
abbrev text_at : {text : List ℕ} {n : NodeId} → Point text n → NodeText n
text_at {text} {n} p = record { header = p.header; lawful = p.lawful; declared = p.declared; body = p.read; asked = each_asked p.header n p.read p.deeds p.done }

-- the lines up to a point begin a text
pub point_begins : (text : List ℕ) (n : NodeId) (p : Point text n) (k : ℕ) → k ≤ 3 + length p.deeds → Begins (lines text) n k
point_begins text n p k le =
    let all = text_lines (text_at p) in
    let many : length p.read ≡ length p.deeds = many_done p.header n p.read p.deeds p.done in
    let long : k ≤ length all = omega (arith, le, many) in
    (text_at p, ap (λ (ls : List (List ℕ)). take k ls) p.cut ∙ take_before all p.rest k long)

-- a text that is followed to its end is one of the node
pub point_tells : (text : List ℕ) (n : NodeId) (p : Point text n) → p.rest ≡ [] → IsText text n
point_tells text n p e = (text_at p, p.cut ∙ ap (λ (ls : List (List ℕ)). text_lines (text_at p) ++ ls) e ∙ append-nil (text_lines (text_at p)))

asked_front : (h : Header) (n : NodeId) (k : ℕ) (ts : List (List ℕ)) → AreAsked h n ts → AreAsked h n (take k ts)
asked_front h n zero ts is = tt
asked_front h n (suc k) [] is = tt
asked_front h n (suc k) (t ∷ ts) is = (is.0, asked_front h n k ts is.1)

asked_there : (h : Header) (n : NodeId) (xs ys : List (List ℕ)) (line : List ℕ) → AreAsked h n (xs ++ line ∷ ys) → (a : Asked) × IsAsked h n line a
asked_there h n [] ys line is = is.0
asked_there h n (x ∷ xs) ys line is = asked_there h n xs ys line is.1

-- a text with the lines up to a point asks something by the line after it
after_point : (text : List ℕ) (n : NodeId) (p : Point text n) (line : List ℕ) (more : List (List ℕ)) → p.rest ≡ line ∷ more → (t : NodeText n)
    → take (suc (suc (suc (suc (length p.read))))) (lines text) ≡ take (suc (suc (suc (suc (length p.read))))) (text_lines t) → (a : Asked) × IsAsked p.header n line a
after_point text n p line more next t e =
    let j = length p.read in
    let upto = p.read ++ line ∷ [] in
    let many : length upto ≡ suc j = many_more p.read line in
    let short : suc j ≤ length upto = omega (arith, many) in
    let long : length upto ≤ suc j = omega (arith, many) in
    let body : p.read ++ p.rest ≡ upto ++ more = ap (λ (ls : List (List ℕ)). p.read ++ ls) next ∙ sym (append_assoc p.read (line ∷ []) more) in
    let all : header_lines p.header ++ upto ≡ take (suc (suc (suc (suc j)))) (text_lines t) =
    sym (ap (λ (ls : List (List ℕ)). header_lines p.header ++ ls) (ap (λ (ls : List (List ℕ)). take (suc j) ls) body ∙ take_before upto more (suc j) short ∙ take_all upto (suc j) long))
    ∙ sym (ap (λ (ls : List (List ℕ)). take (suc (suc (suc (suc j)))) ls) p.cut) ∙ e in
    let first : header_lines p.header ≡ header_lines t.header = ap (λ (ls : List (List ℕ)). take 3 ls) all in
    let rest : upto ≡ take (suc j) t.body = ap (λ (ls : List (List ℕ)). drop 3 ls) all in
    let same : p.header ≡ t.header = same_header p.header t.header p.lawful t.lawful (header_lines p.header) refl first in
    let asked = asked_there t.header n p.read [] line (subst (λ (ls : List (List ℕ)). AreAsked t.header n ls) (sym rest) (asked_front t.header n (suc j) t.body t.asked)) in
    (asked.0, subst (λ (h : Header). IsAsked h n line asked.0) (sym same) asked.1)

asked_more : (h : Header) (n : NodeId) (ts : List (List ℕ)) (line : List ℕ) (a : Asked) → AreAsked h n ts → IsAsked h n line a → AreAsked h n (ts ++ line ∷ [])
asked_more h n [] line a is asked = ((a, asked), tt)
asked_more h n (t ∷ ts) line a is asked = (is.0, asked_more h n ts line a is.1 asked)

-- the lines up to the one in whose midst a limit is passed begin a text
pub midst_begins : (text : List ℕ) (n : NodeId) (w : Which) (m : Midst text n w) (k : ℕ) → k ≤ 4 + length m.point.deeds → Begins (lines text) n k
midst_begins text n w m k le =
    let p = m.point in
    let upto = p.read ++ m.line ∷ [] in
    let t : NodeText n =
    record { header = p.header; lawful = p.lawful; declared = p.declared; body = upto; asked = asked_more p.header n p.read m.line m.last.asked (each_asked p.header n p.read p.deeds p.done) m.asked } in
    let many : length p.read ≡ length p.deeds = many_done p.header n p.read p.deeds p.done in
    let lines_all : length upto ≡ suc (length p.read) = many_more p.read m.line in
    let long : k ≤ length (text_lines t) = omega (arith, le, many, lines_all) in
    let body : p.read ++ p.rest ≡ upto ++ m.more = ap (λ (ls : List (List ℕ)). p.read ++ ls) m.next ∙ sym (append_assoc p.read (m.line ∷ []) m.more) in (
      t,
      ap (λ (ls : List (List ℕ)). take k ls) p.cut ∙ ap (λ (ls : List (List ℕ)). take k (header_lines p.header ++ ls)) body ∙ take_before (text_lines t) m.more k long,
    )

-- a line that asks nothing is the first outside
line_first : (text : List ℕ) (n : NodeId) (p : Point text n) (line : List ℕ) (more : List (List ℕ)) (k : ℕ) → p.rest ≡ line ∷ more → k ≡ 4 + length p.deeds → ((a : Asked) → IsAsked p.header n line a → ⊥) → FirstOutside (lines text) n k
line_first text n p line more k next at none =
    let many : length p.read ≡ length p.deeds = many_done p.header n p.read p.deeds p.done in
    let here : k ≡ suc (suc (suc (suc (length p.read)))) = omega (arith, at, many) in
    record {
      line = omega (arith, at);
      before = λ m low lt. let le : m ≤ 3 + length p.deeds = omega (arith, at, lt) in point_begins text n p m le;
      outside = λ b.
          let asked = after_point text n p line more next b.0 (subst (λ (j : ℕ). take j (lines text) ≡ take j (text_lines b.0)) here b.1) in
          none asked.0 asked.1;
    }

-- a line is refused
pub line_refused : (text : List ℕ) (before now : Seen) (r : Run) (line : List ℕ) (more : List (List ℕ)) (x : Next) → Follows text before now r (line ∷ more) → ((a : Asked) → IsAsked r.cluster r.id line a → ⊥) → IsRefused r.lines x
    → Follow text r.id before (seen now.sent now.handed now.acts now.written) more x
line_refused text before now r line more (Ends (status.Script k)) f none at =
    let l : r.lines ≡ length f.point.deeds = f.lines in
    let place : k ≡ 4 + r.lines = at in
    let at_line : k ≡ 4 + length f.point.deeds = omega (arith, place, l) in
    inl (record {
      first = line_first text r.id f.point line more k f.left at_line (λ a is. none a (subst (λ (h : Header). IsAsked h r.id line a) (sym f.header) is));
      point = f.point;
      place = at_line;
      seen = record { sent = f.seen.sent; handed = f.seen.handed; acts = f.seen.acts; written = f.seen.written };
    })
line_refused text before now r line more (GoesOn q) f none at = absurd at
line_refused text before now r line more (Ends status.Done) f none at = absurd at
line_refused text before now r line more (Ends (status.Illegal l c)) f none at = absurd at
line_refused text before now r line more (Ends status.Words) f none at = absurd at
line_refused text before now r line more (Ends status.ReadFault) f none at = absurd at
line_refused text before now r line more (Ends status.WriteFault) f none at = absurd at
line_refused text before now r line more (Ends status.LinkFault) f none at = absurd at
line_refused text before now r line more (Ends (status.Limit w)) f none at = absurd at
line_refused text before now r line more (Ends status.NoMemory) f none at = absurd at

-- the text has ended
pub text_ended : (text : List ℕ) (before now : Seen) (r : Run) → Follows text before now r [] → Followed text r.id before (seen now.sent now.handed now.acts now.written)
text_ended text before now r f = record { point = f.point; end = f.left; seen = record { sent = f.seen.sent; handed = f.seen.handed; acts = f.seen.acts; written = f.seen.written } }

-- What is written of a line.

-- a run after a line, which goes on unless a limit was passed
pub by_stop : (o : Option Which) (x : Next) (q : Run) (P : Next → Type 0) → MatchOption o (x ≡ GoesOn q) (λ w. x ≡ Ends (status.Limit w)) → P (GoesOn q) → ((w : Which) → P (Ends (status.Limit w))) → P x
by_stop None x q P e goes ends = subst P (sym e) goes
by_stop (Some w) x q P e goes ends = subst P (sym e) (ends w)

pub written_ok : (n : NodeId) (h : Header) (event : ℕ) (m : Moved) (replies : List ℕ) (before now : Option (List ℕ)) (o : Option Which) (x : Next) → m.stopped ≡ o → replies ≡ []
    → MatchOption o (x ≡ GoesOn (record { id = n; cluster = h; lines = event; node = record { own = m.node.own; steps = m.node.steps; received = m.node.received; replies = replies } })) (λ w. x ≡ Ends (status.Limit w)) → Takes before m.node.replies now
    → IsWritten n h event m before now x
written_ok n h event m replies before now None x s none e takes =
    subst (λ (y : Next). IsWritten n h event m before now y) (sym e)
    (s, ap (λ (l : List ℕ). record { id = n; cluster = h; lines = event; node = record { own = m.node.own; steps = m.node.steps; received = m.node.received; replies = l } }) none, takes)
written_ok n h event m replies before now (Some w) x s none e takes = subst (λ (y : Next). IsWritten n h event m before now y) (sym e) (s, takes)
