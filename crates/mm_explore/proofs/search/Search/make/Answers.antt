use Rattle.std.proofs.Common.{◌≡◌, ◌++◌, ◌∷◌, [], ℕ, nat_eq, List, Option, length, take, refl, sym, ap, subst, arith, slice_index_or}
use Rattle.mm_model.specs.Image.{Image}
use Rattle.mm_explore.specs.declared.{findings.Findings.Findings, found.Origin.Origin, search.Search.Search}
use Rattle.mm_explore.specs.{Findings.Extension, FoundLists.{IsAt, led_by}, Noting.{Noted, AreNoted}, Outcomes.End}
use Rattle.mm_explore.specs.Searching.{Ended, IsWithin, Met, schedule_at, turns_before, turns_from}
use Rattle.mm_explore.proofs.Steps.{makes_child, makes_none, ended_as, item_is, list_few, get_inside, turn_at_index}
use Rattle.mm_explore.proofs.search.Search.make.Goals as goal

-- what was noted, where the machine's turn left the rest as it was
module _ (i : Image) (s : Search) (at k : ℕ) (w : IsWithin i s at k) (m : ℕ) (is : m ≡ slice_index_or s.moves.items k 0)
    (was : Search) (rest : was ≡ record s { configs = was.configs }) (f : Findings) where
  abbrev done : List Extension
  done = turns_before i s.found at k

  findings : s.findings ≡ was.findings
  findings = sym (ap (λ (z : Search). z.findings) rest)

  noted_there : (Noted i s.found done was.findings → Noted i s.found (done ++ (record { schedule = schedule_at s at; item = m }) ∷ []) f)
      → Noted i s.found (done ++ turn_at_index s at k ∷ []) f
  noted_there note =
      subst (λ n. Noted i s.found (done ++ (record { schedule = schedule_at s at; item = n }) ∷ []) f) is (note (subst (Noted i s.found done) findings w.come.noted))

  ended_there : ((ends : List End) → AreNoted i s.found ends was.findings → AreNoted i s.found ends f) → Ended i s.found (take at s.found) f
  ended_there note = ended_as i s.found (take at s.found) was.findings f note (subst (Ended i s.found (take at s.found)) findings w.come.ended)

  met_there : (child : Option ℕ) (mid : Search) → Met i (record { from = at; item = m }) child (record was { findings = f }) mid
      → Met i (record { from = at; item = slice_index_or s.moves.items k 0 }) child (record s { configs = was.configs; findings = f }) mid
  met_there child mid met =
      subst (λ n. Met i (record { from = at; item = n }) child (record s { configs = was.configs; findings = f }) mid) is
      (subst (λ (z : Search). Met i (record { from = at; item = m }) child (record z { findings = f }) mid) rest met)

pub overflow_cast-origin : goal.overflow_cast-origin
overflow_cast-origin c =
    let s = c.args.self.now in
    let w = c.requires.within in
    let few = list_few c.args.img.now s.all s.limit s.found (turns_before c.args.img.now s.found c.args.at c.args.k) (turns_from c.args.img.now s.found c.args.at c.args.k) w.come.goes in
    let room = w.come.room in
    let inside = w.inside in
    omega (arith, few, room, inside)

pub turn-requires-clause-kept : goal.turn-requires-clause-kept
turn-requires-clause-kept c = c.requires.within.come.kept

pub turn-requires-clause-inside : goal.turn-requires-clause-inside
turn-requires-clause-inside c = c.requires.within.inside

pub meet-requires : goal.meet-requires
meet-requires c =
    let s = c.args.self.now in
    let now = c.turn.new.self in
    let w = c.requires.within in
    let found : now.found ≡ s.found = ap (λ (z : Search). z.found) c.in_ok-step.ensures.rest in
    let limit : now.limit ≡ s.limit = ap (λ (z : Search). z.limit) c.in_ok-step.ensures.rest in
    let origin : Origin = record { from = c.args.at; item = c.index.result.now } in
    let inside = w.inside in
    let long = ap length found in
    let room = w.come.room in
    record {
      at = subst (λ l. IsAt c.args.img.now l (led_by l origin) now.configs) (sym found) c.in_ok-step.ensures.at;
      from = omega (arith, inside, long);
      few = omega (arith, room, limit);
    }

pub returns-in_ok-push-in-Some : goal.returns-in_ok-push-in-Some
returns-in_ok-push-in-Some c =
    let s = c.args.self.now in
    let i = c.args.img.now in
    let at = c.args.at in
    let k = c.args.k in
    let w = c.requires.within in
    let m = c.index.result.now in
    let x : Extension = record { schedule = schedule_at s at; item = m } in
    let is = item_is s.moves.items k m c.requires.inside c.index.ensures in
    let rest = c.in_ok-step.ensures.rest in
    let made = c.in_ok-step.ensures.made in
    let f = c.note.new.self in
    let noted = noted_there i s at k w m is c.turn.new.self rest f
    (λ h. c.in_ok-note.ensures.noted i s.found (turns_before i s.found at k) x h (record { schedule = get_inside s.found at [] w.inside; item = refl }) made.step made.group) in
    let ended = ended_there i s at k w m is c.turn.new.self rest f (λ ends h. c.in_ok-note.ensures.ends i s.found ends h) in
    let met = met_there i s at k w m is c.turn.new.self rest f c.in_ok-child.field-0 c.meet.new.self c.in_ok-child.ensures in
    record {
      makes = makes_child i s at k w c.requires.inside c.turn.new.self.configs f c.meet.new.self c.in_ok-child.field-0 noted ended met
          c.in-Some.child c.in-Some.is c.push.new.self c.in_ok-push-in-Some.ensures.items (nat_eq c.in-Some.child at) refl;
    }

pub returns-in-None : goal.returns-in-None
returns-in-None c =
    let s = c.args.self.now in
    let i = c.args.img.now in
    let at = c.args.at in
    let k = c.args.k in
    let w = c.requires.within in
    let m = c.index.result.now in
    let x : Extension = record { schedule = schedule_at s at; item = m } in
    let is = item_is s.moves.items k m c.requires.inside c.index.ensures in
    let rest = c.in_ok-step.ensures.rest in
    let made = c.in_ok-step.ensures.made in
    let f = c.note.new.self in
    let noted = noted_there i s at k w m is c.turn.new.self rest f
    (λ h. c.in_ok-note.ensures.noted i s.found (turns_before i s.found at k) x h (record { schedule = get_inside s.found at [] w.inside; item = refl }) made.step made.group) in
    let ended = ended_there i s at k w m is c.turn.new.self rest f (λ ends h. c.in_ok-note.ensures.ends i s.found ends h) in
    let met = met_there i s at k w m is c.turn.new.self rest f c.in_ok-child.field-0 c.meet.new.self c.in_ok-child.ensures in
    record { makes = makes_none i s at k w c.requires.inside c.turn.new.self.configs f c.meet.new.self c.in_ok-child.field-0 noted ended met c.in-None.is }
