use Rattle.std.proofs.Common.{◌≡◌, ◌∙◌, ℕ, ◌+◌, List, [], ◌∷◌, ◌++◌, drop, true, refl, sym, ap, arith, append_assoc}
use Rattle.std.proofs.Common.{rules, String, Global, string_bytes}
use Rattle.std.proofs.lemmas.Bool.{or_parts}
use Rattle.std.proofs.lemmas.Grind.{put_two, put_three}
use Rattle.std.proofs.lemmas.List.{drop_more, drop_all}
use Rattle.serde_json.specs.Data.{null, number, member, string}
use Rattle.serde_json.specs.declared.value.Value as values
use Rattle.serde_json.specs.declared.number.Number.{Number}
use Rattle.serde_json.proofs.Views.{view-Array, view-Object}
use Rattle.serde_json.specs.View.{view, number_view, items_view, members_view}
use Rattle.serde_json.specs.Written.{compact_text, items_have_float, items_text, members_have_float, members_text}
use Rattle.bitcommands.proofs.commands.values.+values.Goals as goal

-- what a value without others inside is seen as
view-Null : view values.Null ≡ null
view-Null = search (rules, values.the_lemmas)

view-Number : (n : Number) → view (values.Number n) ≡ number (number_view n)
view-Number n = search (rules, values.the_lemmas)

view-String : (s : String Global) → view (values.String s) ≡ string (string_bytes s)
view-String s = search (rules, values.the_lemmas)

-- a key and its colon stand before the value and what follows
keyed : (comma key value rest : List ℕ)
    → (comma ++ (key ++ 58 ∷ [])) ++ (value ++ rest) ≡ comma ++ (key ++ 58 ∷ (value ++ rest))
keyed comma key value rest = simp append_assoc

pub write_items-loop-item-preserved : goal.write_items-loop-item-preserved
write_items-loop-item-preserved g t c = λ none plain.
    let l = c.loop-item in
    let xs = c.deref-item-items.result.now in
    let here : drop l.item-index xs ≡ c.item-item.result ∷ drop (l.item-index + 1) xs =
    rw (drop_more xs l.item-index c.item-item.result (omega arith), ← c.item-item.is) refl in
    let left = l.invariant none plain in
    let parts = or_parts _ _ (sym (ap (λ xs. items_have_float (items_view xs)) here) ∙ left.0) in
    let comma = c.in_ok-write_comma.ensures left.1.plain (refl {a = true}) in
    let value = c.in_ok-write_value.ensures parts.0 comma.plain (refl {a = true}) in (
      parts.1,
      record {
        plain = value.plain;
        ends = λ h rest.
            left.1.ends h (put_three _ _ _ _ _ _ _ _ _ comma value rest
            (sym (ap (λ xs. items_text l.later (items_view xs)) here)));
      },
    )

pub write_items-returns : goal.write_items-returns
write_items-returns g t c = λ none plain ok.
    let l = c.loop-item in
    let left = (l.invariant (rw c.deref-item-items.ensures.value none) plain).1 in
    rw (← c.deref-item-items.ensures.value) (left.ends _
    (rw (drop_all l.item-index c.deref-item-items.result.now (omega arith)) (c.write_str.ensures.writes left.plain ok)))

pub write_members-loop-key-init : goal.write_members-loop-key-init
write_members-loop-key-init g t c = λ none plain.
    rw (c.into_iter-key-iterator.ensures.into_iter_gives, c.iter-key-items.ensures.rest)
    (none, record { plain = plain; ends = λ h all. all })

pub write_members-loop-key-preserved : goal.write_members-loop-key-preserved
write_members-loop-key-preserved g t c = λ none plain.
    let l = c.loop-key in
    let here = ap members_view c.in-Some.ensures.steps
    ∙ ap (λ k. member k (view c.in-Some.member.now) (members_view c.next.new.self)) (sym c.as_str.ensures.value) in
    let left = l.invariant none plain in
    let parts = or_parts _ _ (sym (ap members_have_float here) ∙ left.0) in
    let key = c.in_ok-write_key.ensures left.1.plain (refl {a = true}) in
    let value = c.in_ok-write_value.ensures parts.0 key.plain (refl {a = true}) in (
      parts.1,
      record {
        plain = value.plain;
        ends = λ h rest.
            left.1.ends h
            (put_three _ _ _ _ _ _ _ _ _ key value rest
            (keyed _ (compact_text (string c.as_str.result.now)) (compact_text (view c.in-Some.member.now))
            (members_text true (members_view c.next.new.self)) ∙ sym (ap (members_text l.later) here)));
      },
    )

pub write_members-returns : goal.write_members-returns
write_members-returns g t c = λ none plain ok.
    let left = (c.loop-key.invariant none plain).1 in
    left.ends _ (rw c.in-None.ensures.steps.0 (c.write_str.ensures.writes left.plain ok))

pub write_value-returns-in-Null : goal.write_value-returns-in-Null
write_value-returns-in-Null g t c = rw (c.in-Null.is, view-Null) (λ none. c.write_str.ensures.writes)

pub write_value-returns-in-Number : goal.write_value-returns-in-Number
write_value-returns-in-Number g t c = rw (c.in-Number.is, view-Number) c.write_number.ensures

pub write_value-returns-in-String : goal.write_value-returns-in-String
write_value-returns-in-String g t c =
    rw (c.in-String.is, view-String) (λ none. rw c.as_str.ensures.value at c.write_quoted.ensures)

pub write_value-returns-in_ok-write_str-in-Array : goal.write_value-returns-in_ok-write_str-in-Array
write_value-returns-in_ok-write_str-in-Array g t c =
    rw (c.in-Array.is, view-Array) (λ none plain ok.
    let first = c.in_ok-write_str-in-Array.ensures.writes plain (refl {a = true}) in
    put_two _ _ _ _ _ _ _ first (c.write_items.ensures none first.plain ok) refl)

pub write_value-returns-in_ok-write_str-in-Object : goal.write_value-returns-in_ok-write_str-in-Object
write_value-returns-in_ok-write_str-in-Object g t c =
    rw (c.in-Object.is, view-Object) (λ none plain ok.
    let first = c.in_ok-write_str-in-Object.ensures.writes plain (refl {a = true}) in
    put_two _ _ _ _ _ _ _ first (c.write_members.ensures none first.plain ok) refl)
