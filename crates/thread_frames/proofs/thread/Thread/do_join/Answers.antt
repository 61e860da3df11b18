use Rattle.std.proofs.Common.{◌≡◌, ◌∷◌, ◌++◌, [], map, refl, sym, ◌∙◌, ap, subst, arith, Some, Option, IsTrue}
use Rattle.std.proofs.Math.Logic.{∥∥₁_prop}
use Rattle.std.specs.Option.{option_map}
use mathlib.Core.List.{map-append}
use Rattle.thread_output.specs.Telling.{Tells}
use Rattle.thread_state.specs.Joins.{released}
use Rattle.thread_frames.specs.Views.{Child, child_shown, newest, result_of, told_as, all_brought, brought, released_by, join_words_of}
use Rattle.thread_frames.specs.Actions.{is_there}
use Rattle.thread_frames.specs.Points.{At}
use Rattle.thread_frames.specs.declared.ended.Ended.{Ended}
use Rattle.thread_frames.specs.declared.open_child.OpenChild.{OpenChild}
use Rattle.thread_frames.specs.declared.prepared.Prepared.TheVariants.{Nothing, Join}
use Rattle.thread_frames.proofs.Placed.{placed_gives, next_point, prepared_as}
use Rattle.thread_frames.proofs.Listing.{newest_of}
use Rattle.thread_frames.proofs.Places.{newest_shown, there_given}
use Rattle.thread_frames.proofs.Joining.{Joined, joined_had, can_had, can_take, joined_counts, joined_at, brought_last}
use Rattle.thread_frames.proofs.thread.Thread.do_join.Goals as goal

pub unreachable-requires-in_default-ended : goal.unreachable-requires-in_default-ended
unreachable-requires-in_default-ended c =
    let b = c.args.self.now in
    let x = c.in-Some.child in
    there_given (Some x)
    (subst (λ (o : Option Child). IsTrue (is_there o))
    (newest_shown b.children.items ∙ ap (λ (o : Option OpenChild). option_map child_shown o) (ap newest c.in-Some.ensures.items ∙ newest_of c.pop.new.self.items x))
    c.requires.delivered)
    (sym c.in_default-ended.is)

pub join_state-rows-requires-clause-can : goal.join_state-rows-requires-clause-can
join_state-rows-requires-clause-can c = λ going child_going.
    let b = c.args.self.now in
    let x = c.in-Some.child in
    let e = c.in-Some-ended.ended in
    let is = sym c.replace.ensures.value ∙ c.in-Join.is in
    can_had c.in-Join.branch c.deref.result.now b.run.state e.state (placed_gives b ∥∥₁_prop c.requires.placed (λ t k setting of y.
    ∣ can_take setting t b.func b.run c.pop.new.self.items x e b.record_block c.in-Join.branch c.in-Join.assigned c.deref.result.now c.in-Some-ended.is c.deref.ensures.value of.owned
    (subst (λ xs. At setting t b.func b.run xs b.record_block (Join c.in-Join.branch c.in-Join.assigned)) c.in-Some.ensures.items
    (prepared_as setting t b.func b.run b.children.items b.record_block _ b.prepared (sym is) y)) going child_going ∣₁))

pub returns-clause-words : goal.returns-clause-words
returns-clause-words c =
    let b = c.args.self.now in
    let x = c.in-Some.child in
    let e = c.in-Some-ended.ended in
    let last = ap newest c.in-Some.ensures.items ∙ newest_of c.pop.new.self.items x in
    let words : join_words_of b ≡ released b.run.state e.state =
    ap (λ (o : Option OpenChild). released_by b (result_of o)) last ∙ ap (λ (o : Option Ended). released_by b o) c.in-Some-ended.is in
    c.join_releases-words.ensures.words ∙ sym words

pub returns-clause-rows : goal.returns-clause-rows
returns-clause-rows c =
    let b = c.args.self.now in
    let x = c.in-Some.child in
    let e = c.in-Some-ended.ended in
    let last = ap newest c.in-Some.ensures.items ∙ newest_of c.pop.new.self.items x in
    let words : join_words_of b ≡ released b.run.state e.state =
    ap (λ (o : Option OpenChild). released_by b (result_of o)) last ∙ ap (λ (o : Option Ended). released_by b o) c.in-Some-ended.is in
    c.join_state-rows.ensures.words ∙ sym words

pub returns-clause-joined : goal.returns-clause-joined
returns-clause-joined c =
    let b = c.args.self.now in
    let x = c.in-Some.child in
    let e = c.in-Some-ended.ended in
    let is = sym c.replace.ensures.value ∙ c.in-Join.is in
    let st : Joined b.run.state c.join_state-rows.new.state e.state = joined_had b.run.state c.join_state-rows.new.state e.state (placed_gives b ∥∥₁_prop c.requires.placed (λ t k setting of y.
    ∣ joined_counts setting t b.func b.run c.pop.new.self.items x e b.record_block c.in-Join.branch c.in-Join.assigned c.deref.result.now c.in-Some-ended.is c.deref.ensures.value of.owned
    (subst (λ xs. At setting t b.func b.run xs b.record_block (Join c.in-Join.branch c.in-Join.assigned)) c.in-Some.ensures.items
    (prepared_as setting t b.func b.run b.children.items b.record_block _ b.prepared (sym is) y)) c.join_state-rows.new.state c.join_state-rows.ensures.state ∣₁)) in
    record {
      same = record { id = refl; parent = refl; func = refl; label = st.label };
      done = st.done;
      forks = st.forks;
      joined = child_shown x;
      children = ap (map child_shown) c.in-Some.ensures.items ∙ map-append child_shown c.pop.new.self.items (x ∷ []);
      next = ap (told_as c.pop.new.self.items) c.replace.ensures.after;
      words_left =
          let words = st.words in
          let given = c.join_releases-words.ensures.words in
          let more = ap all_brought c.in-Some.ensures.items ∙ brought_last c.pop.new.self.items x in
          let of_child = ap brought c.in-Some-ended.is in
          omega (arith, words, given, more, of_child);
    }

pub returns-clause-point : goal.returns-clause-point
returns-clause-point c = λ t k.
    let b = c.args.self.now in
    let x = c.in-Some.child in
    let e = c.in-Some-ended.ended in
    let is = sym c.replace.ensures.value ∙ c.in-Join.is in
    next_point t k b _ (λ setting of y.
    prepared_as setting t b.func _ c.pop.new.self.items b.record_block _ Nothing c.replace.ensures.after
    (joined_at setting t b.func b.run c.pop.new.self.items x e b.record_block c.in-Join.branch c.in-Join.assigned c.deref.result.now c.in-Some-ended.is c.deref.ensures.value of.owned
    (subst (λ xs. At setting t b.func b.run xs b.record_block (Join c.in-Join.branch c.in-Join.assigned)) c.in-Some.ensures.items
    (prepared_as setting t b.func b.run b.children.items b.record_block _ b.prepared (sym is) y)) c.join_state-rows.new.state c.then-2.result c.join_state-rows.ensures.state
    (λ front of_child own_part f g h. c.then-2.ensures.items front (of_child ++ own_part) f
    (c.then.ensures.items of_child own_part g (subst (λ z. Tells z own_part) (sym c.replace-own.ensures.value) h)))))
