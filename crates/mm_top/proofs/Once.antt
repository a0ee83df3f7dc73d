-- Words whose inputs are told come to one thing: a text, or one refusal.
use Rattle.std.proofs.Common.{◌≡◌, ℕ, ◌⊎◌, inl, inr, Bool, List, [], ◌∷◌, map, length, true, false, Option, None, Some}
use Rattle.std.proofs.Common.{Result, Ok, Err, refl, sym, ap, ◌∙◌, subst, arith}
use Rattle.mm_model.specs.{declared.counts.Counts.Counts, Uses.Use, Image.Image, Groups.among}
use Rattle.mm_object.specs.Objects.{Object}
use Rattle.mm_link.specs.{declared.fault.LinkFault.LinkFault, Faults.link_fault}
use Rattle.mm_audit.specs.Refusals.{StandAlone}
use Rattle.mm_sweep.specs.Refusals.{CanSweep}
use Rattle.mm_load.specs.declared.status.{Refusal.Refusal, Status.{Status, TheVariants.{Done, NoMemory}}}
use Rattle.mm_load.specs.declared.status.CommandError.{CommandError}
use Rattle.mm_load.specs.Kinds.{Value, an_image, a_list, an_object, a_links, an_events}
use Rattle.mm_load.proofs.Told.{inputs_values, inputs_once, told_inputs_refusal, told_inputs_once}
use Rattle.mm_top.specs.{Groups.GroupsRefused, Nodes.{LacksNode, NoneLacking, JoinRefused}, Ranges.SweepRefused}
use Rattle.mm_top.specs.Commands.{Declines, DeclinesAt, Yields, YieldsAt, LinkRefused, IsLinked}
use Rattle.mm_top.specs.Answers.{Answers, Call, RowComesTo, HasToRefuse, ToldToRefuse, NothingFails, RefusedUnless}
use Rattle.mm_top.specs.Answers.{RowEnds, refuse, write, status_of}
use Rattle.mm_net.specs.declared.link.Link.{Link}
use Rattle.mm_cli.specs.{declared.table.Command.Command, Words.{Word, groups_word, number_word, range_word}}
use Rattle.mm_cli.{specs.Table.{Row, files_of, input_of}, proofs.Rows.one_row}
use Rattle.mm_load.specs.declared.status.Refusal.TheVariants as refusal
use Rattle.mm_load.specs.declared.status.CommandError.TheVariants as stop
use Rattle.mm_cli.specs.declared.table.Command.TheVariants as commands

-- 1. Groups stand alone, or have one refusal.

false_not_true : false ≡ true → ⊥
false_not_true clash = cc

not_refused : (i : Image) (c : ℕ → Bool) (r : Refusal) → StandAlone i c → GroupsRefused i c r → ⊥
not_refused i c refusal.NoGroup stand none = false_not_true (sym (none stand.some.slot stand.some.stands) ∙ stand.some.member)
not_refused i c (refusal.Crosses n) stand first =
    let x = first.1.crosses in
    let y = x.crosses in
    y.sides (x.inside ∙ sym (stand.closed y.served y.server y.one y.other y.handled x.inside))
not_refused i c r stand refused = refused

groups_refusal : (i : Image) (c : ℕ → Bool) (r q : Refusal) → GroupsRefused i c r → GroupsRefused i c q → r ≡ q
groups_refusal i c refusal.NoGroup refusal.NoGroup first second = refl
groups_refusal i c refusal.NoGroup (refusal.Crosses m) none second = absurd (false_not_true (sym (none second.0.slot second.0.stands) ∙ second.0.member))
groups_refusal i c (refusal.Crosses n) refusal.NoGroup first none = absurd (false_not_true (sym (none first.0.slot first.0.stands) ∙ first.0.member))
groups_refusal i c (refusal.Crosses n) (refusal.Crosses m) first second =
    let same : n ≡ m = omega (arith, first.1.least m second.1.crosses, second.1.least n first.1.crosses) in
    ap (λ (k : ℕ). refusal.Crosses k) same
groups_refusal i c refusal.NoGroup q first second = absurd second
groups_refusal i c (refusal.Crosses n) q first second = absurd second
groups_refusal i c r q first second = absurd first

-- 2. Objects link, or have one refusal.

pub same_objects : (xs ys : List Object) → map an_object xs ≡ map an_object ys → xs ≡ ys
same_objects [] [] same = refl
same_objects [] (y ∷ ys) same = absurd (cc)
same_objects (x ∷ xs) [] same = absurd (cc)
same_objects (x ∷ xs) (y ∷ ys) same =
    let first : x ≡ y = cc in
    let others : map an_object xs ≡ map an_object ys = cc in
    let rest : xs ≡ ys = same_objects xs ys others in
    cc

not_linked : (xs ys : List Object) (r : Refusal) (text : List ℕ) → map an_object xs ≡ map an_object ys → LinkRefused xs r → IsLinked ys text → ⊥
not_linked xs ys r text same (fault, is, first) (i, linked, spells) =
    let objects : ys ≡ xs = sym (same_objects xs ys same) in
    let none : link_fault xs ≡ None = subst (λ (os : List Object). link_fault os ≡ None) objects linked.clean in
    cc

link_refusal : (xs ys : List Object) (r q : Refusal) → map an_object xs ≡ map an_object ys → LinkRefused xs r → LinkRefused ys q → r ≡ q
link_refusal xs ys r q same (fault, is, first) (other, also, second) =
    let objects : ys ≡ xs = sym (same_objects xs ys same) in
    let again : link_fault xs ≡ Some other = subst (λ (os : List Object). link_fault os ≡ Some other) objects second in
    let one : fault ≡ other = cc in
    is ∙ ap (λ (f : LinkFault). refusal.Link f) one ∙ sym also

-- 3. A range can be swept, or there is one refusal.

not_swept : (range : ℕ × ℕ) (i : Image) (r : Refusal) → CanSweep range i → SweepRefused range i r → ⊥
not_swept range i (refusal.Held n) can first = can.held n first.held
not_swept range i (refusal.Privileged g) can first = can.privileged g first.1.privileged
not_swept range i r can refused = refused

sweep_refusal : (range : ℕ × ℕ) (i : Image) (r q : Refusal) → SweepRefused range i r → SweepRefused range i q → r ≡ q
sweep_refusal range i (refusal.Held n) (refusal.Held m) first second =
    let same : n ≡ m = omega (arith, first.least m second.held, second.least n first.held) in
    ap (λ (k : ℕ). refusal.Held k) same
sweep_refusal range i (refusal.Held n) (refusal.Privileged g) first second = absurd (second.0 n first.held)
sweep_refusal range i (refusal.Privileged g) (refusal.Held n) first second = absurd (first.0 n second.held)
sweep_refusal range i (refusal.Privileged g) (refusal.Privileged h) first second =
    let same : g ≡ h = omega (arith, first.1.least h second.1.privileged, second.1.least g first.1.privileged) in
    ap (λ (k : ℕ). refusal.Privileged k) same
sweep_refusal range i (refusal.Held n) q first second = absurd second
sweep_refusal range i (refusal.Privileged g) q first second = absurd second
sweep_refusal range i r q first second = absurd first

-- 4. Links join nodes, or there is one refusal.

pub same_images : (xs ys : List Image) → map an_image xs ≡ map an_image ys → xs ≡ ys
same_images [] [] same = refl
same_images [] (y ∷ ys) same = absurd (cc)
same_images (x ∷ xs) [] same = absurd (cc)
same_images (x ∷ xs) (y ∷ ys) same =
    let first : x ≡ y = cc in
    let others : map an_image xs ≡ map an_image ys = cc in
    let rest : xs ≡ ys = same_images xs ys others in
    cc

not_joined : (links : List Link) (xs ys : List Image) (r : Refusal) → map an_image xs ≡ map an_image ys → JoinRefused links (length xs) r → NoneLacking links (length ys) → ⊥
not_joined links xs ys (refusal.NoNode l) same first none = none l (subst (λ (images : List Image). LacksNode links (length images) l) (same_images xs ys same) first.lacks)
not_joined links xs ys r same refused none = refused

join_refusal : (links : List Link) (count : ℕ) (r q : Refusal) → JoinRefused links count r → JoinRefused links count q → r ≡ q
join_refusal links count (refusal.NoNode l) (refusal.NoNode m) first second =
    let same : l ≡ m = omega (arith, first.least m second.lacks, second.least l first.lacks) in
    ap (λ (k : ℕ). refusal.NoNode k) same
join_refusal links count (refusal.NoNode l) q first second = absurd second
join_refusal links count r q first second = absurd first

same_nodes : (links : List Link) (xs ys : List Image) (q : Refusal) → map an_image xs ≡ map an_image ys → JoinRefused links (length ys) q → JoinRefused links (length xs) q
same_nodes links xs ys q same refused = subst (λ (images : List Image). JoinRefused links (length images) q) (sym (same_images xs ys same)) refused

-- 5. So does a row whose inputs have some values.

not_both_at : (tells : List Use → Option Counts) (command : Command) (words : List Word) (values : List Value) (r : Refusal)
    (text : List ℕ) → DeclinesAt command words values r → YieldsAt tells command words values text → ⊥
not_both_at tells commands.Solo (image ∷ groups_word groups ∷ number_word n ∷ words) (an_image i ∷ a_list list ∷ []) r text declines writes =
    not_refused i (among groups) r writes.0 declines
not_both_at tells commands.Extract (image ∷ groups_word groups ∷ []) (an_image i ∷ []) r text declines writes =
    not_refused i (among groups) r writes.0 declines
not_both_at tells commands.Link words values r text (xs, is, declines) (ys, also, writes) =
    not_linked xs ys r text (sym is ∙ also) declines writes
not_both_at tells commands.Sweep (image ∷ range_word base log ∷ []) (an_image i ∷ []) r text declines writes =
    not_swept (base, log) i r writes.0 declines
not_both_at tells commands.Net (first ∷ second ∷ number_word n ∷ words) (a_links links ∷ an_events events ∷ values) r text
    (xs, is, declines) (ys, also, none, writes) =
    not_joined links xs ys r (sym is ∙ also) declines none
not_both_at tells command words values r text declines writes = assumption (declines, writes)

not_both : (tells : List Use → Option Counts) (row : Row) (values : List Value) (r : Refusal) (text : List ℕ)
    → Declines row values r → Yields tells row values text → ⊥
not_both tells row values r text declines writes = not_both_at tells row.command row.words values r text declines writes

one_refusal_at : (command : Command) (words : List Word) (values : List Value) (r q : Refusal) → DeclinesAt command words values r
    → DeclinesAt command words values q → r ≡ q
one_refusal_at commands.Solo (image ∷ groups_word groups ∷ words) (an_image i ∷ lists) r q one two = groups_refusal i (among groups) r q one two
one_refusal_at commands.Extract (image ∷ groups_word groups ∷ []) (an_image i ∷ []) r q one two = groups_refusal i (among groups) r q one two
one_refusal_at commands.Link words values r q (xs, is, one) (ys, also, two) = link_refusal xs ys r q (sym is ∙ also) one two
one_refusal_at commands.Sweep (image ∷ range_word base log ∷ []) (an_image i ∷ []) r q one two = sweep_refusal (base, log) i r q one two
one_refusal_at commands.Net words (a_links links ∷ an_events events ∷ values) r q (xs, is, one) (ys, also, two) =
    join_refusal links (length xs) r q one (same_nodes links xs ys q (sym is ∙ also) two)
one_refusal_at command words values r q one two = absurd one

one_refusal : (row : Row) (values : List Value) (r q : Refusal) → Declines row values r → Declines row values q → r ≡ q
one_refusal row values r q one two = one_refusal_at row.command row.words values r q one two

module _ (tells : List Use → Option Counts) (held : List ℕ → Option (List ℕ)) (left : Option (List ℕ)) (row : Row) where
  refused_once : (r : Refusal) (text : List ℕ) → ToldToRefuse held left row r → RowComesTo tells held left row (write text) → ⊥
  refused_once r text (inl refused) (values, accepted, writes) = told_inputs_once held left (files_of row) (input_of row) r values refused accepted
  refused_once r text (inr (told, (values, accepted, declines))) (others, also, writes) =
      let same : others ≡ values = inputs_values held left (files_of row) (input_of row) others values told also accepted in
      not_both tells row values r text declines (subst (λ (vs : List Value). Yields tells row vs text) same writes)

  told_to_one : (r q : Refusal) → ToldToRefuse held left row r → RowComesTo tells held left row (refuse q) → q ≡ r
  told_to_one r q (inl one) (inl two) = sym (told_inputs_refusal held left (files_of row) (input_of row) r q one two)
  told_to_one r q (inl one) (inr (values, accepted, declines)) = absurd (told_inputs_once held left (files_of row) (input_of row) r values one accepted)
  told_to_one r q (inr (told, (values, accepted, one))) (inl two) = absurd (inputs_once held left (files_of row) (input_of row) q values told two accepted)
  told_to_one r q (inr (told, (values, accepted, one))) (inr (others, also, two)) =
      let same : others ≡ values = inputs_values held left (files_of row) (input_of row) others values told also accepted in
      one_refusal row values q r (subst (λ (vs : List Value). Declines row vs q) same two) one

-- 6. So what it comes to is answered.

unrefused : (c : Call) (words : List (List ℕ)) (nothing : NothingFails c words) (r : Refusal) → RowComesTo c.tells c.files.held c.input.left nothing.row (refuse r) → ⊥
unrefused c words nothing r (inl refused) =
    inputs_once c.files.held c.input.left (files_of nothing.row) (input_of nothing.row) r nothing.values nothing.told refused nothing.accepted
unrefused c words nothing r (inr (others, also, declines)) =
    let same : others ≡ nothing.values =
    inputs_values c.files.held c.input.left (files_of nothing.row) (input_of nothing.row) others nothing.values nothing.told also nothing.accepted in
    nothing.unrefused r (subst (λ (vs : List Value). Declines nothing.row vs r) same declines)

fine : (c : Call) (words : List (List ℕ)) (nothing : NothingFails c words) (result : Result (Unit {0}) CommandError) → RowEnds c nothing.row result
    → (status_of result ≡ Done) ⊎ (status_of result ≡ NoMemory)
fine c words nothing (Ok done) ends = inl refl
fine c words nothing (Err stop.NoMemory) ends = inr refl
fine c words nothing (Err (stop.Refused r)) ends = absurd (unrefused c words nothing r ends.0)
fine c words nothing (Err stop.ReadFault) ends = absurd (nothing.read ends.0)
fine c words nothing (Err stop.WriteFault) ends = absurd (nothing.written ends.3)

pub complete : {c : Call} {words : List (List ℕ)} {status : Status} → Answers c words status → NothingFails c words → (status ≡ Done) ⊎ (status ≡ NoMemory)
complete {c = c} {words = words} answers nothing = elim answers.cases [
  | inl none ↦ absurd (none.0 nothing.row nothing.asks)
  | inr says ↦
      let same : says.row ≡ nothing.row = one_row words says.row nothing.row says.asks nothing.asks in
      let P : Status → Type 0 = λ s. (s ≡ Done) ⊎ (s ≡ NoMemory) in
      subst P (sym says.answers) (fine c words nothing says.result (subst (λ (x : Row). RowEnds c x says.result) same says.ends))
]

answered : (c : Call) (row : Row) (r : Refusal) → ToldToRefuse c.files.held c.input.left row r → (result : Result (Unit {0}) CommandError) → RowEnds c row result
    → RefusedUnless r (status_of result)
answered c row r why (Ok done) ends = absurd (refused_once c.tells c.files.held c.input.left row r ends.0 why ends.1)
answered c row r why (Err (stop.Refused q)) ends = told_to_one c.tells c.files.held c.input.left row r q why ends.0
answered c row r why (Err stop.ReadFault) ends = tt
answered c row r why (Err stop.WriteFault) ends = absurd (refused_once c.tells c.files.held c.input.left row r ends.0 why ends.1)
answered c row r why (Err stop.NoMemory) ends = tt

pub refuses : {c : Call} {words : List (List ℕ)} {status : Status} → Answers c words status → (r : Refusal) → HasToRefuse c.files.held c.input.left words r → RefusedUnless r status
refuses {c = c} {words = words} answers r has = elim answers.cases [
  | inl none ↦ absurd (none.0 has.row has.asks)
  | inr says ↦
      let same : says.row ≡ has.row = one_row words says.row has.row says.asks has.asks in
      subst (RefusedUnless r) (sym says.answers) (answered c has.row r has.why says.result (subst (λ (x : Row). RowEnds c x says.result) same says.ends))
]
