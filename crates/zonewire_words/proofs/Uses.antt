-- What each use of an option keeps of the matches, all words keep.
use Rattle.std.proofs.Common.{◌≡◌, ℕ, Bool, cond, true, false, zero, suc, refl, List, [], ◌∷◌, ◌&&◌, length, drop, Option, Some, None, is_some}
use Rattle.std.specs.List.{find, fold}
use Rattle.std.specs.Option.{option_map_or}
use Rattle.std.specs.Str.{bytes_eq, chars}
use Rattle.std.specs.Prelude.{encode_utf8, slice_get}
use Rattle.clap.specs.Lexer.{long_of, short_of}
use Rattle.clap.specs.Kinds.{Kinds, or_else}
use Rattle.clap.specs.Walk.{Held, Names, Outcome, Row, Rule, Step, Text, Waiting, Walk, done, waits, plain, refused, idle, option, positional, next, trailing, subcommand, value, after_flag, after_step, answers_to, arg_by_id, arg_by_index, arg_by_long, arg_by_short, attached_value, bundle_met, bundle_step, finished, flag_met, is_pending, long_met, long_or_other, option_met, plain_word, positional_held, reacted, settled, settled_rows, short_met, subcommand_met, subcommand_or_other, takes_several, takes_values, used, used_by_id, walk, walk_from, walked, walked_from, word_met}
use Rattle.clap.specs.Simple.{Shape}
use Rattle.clap.specs.Faults.{bundle_step_fault, check_fault, flag_word_fault, flags_fault, level_fault, long_fault, option_fault, other_fault, positional_fault, react_fault, settle_fault, short_fault, step_fault, turn_fault, use_fault, walk_fault, word_fault}
use Rattle.clap.specs.declared.error.kind.ErrorKind.TheVariants as kind

-- neither of two steps fails
pub none_else : (first second : Kinds) → or_else first second ≡ [] → (first ≡ []) × (second ≡ [])
none_else [] second e = (refl, e)
none_else (k ∷ ks) second e = cc

-- nothing below a level fails, nor do its last checks
pub level_clear : (s : Shape) (names : Names) (h : Held) (words : List Text) (has_subcommand : Bool) (below : Kinds)
    → level_fault s names h words has_subcommand below ≡ []
    → (below ≡ []) × (check_fault s (finished s.rules (walk s.rules names h words).held) has_subcommand ≡ [])
level_clear s names h words has_subcommand below clear =
    let later = none_else below _ (none_else _ _ clear).1 in
    (later.0, (none_else _ _ (none_else _ _ later.1).1).1)

module _ (s : Shape) (P : List Row → Type 0)
    (keeps : (p : Rule → Bool) (a : Rule) → find p s.rules ≡ Some a → (values : List Text) (rows : List Row)
    → use_fault s.args_override_self a values rows ≡ [] → P rows → P (used a values rows)) where
  abbrev c : List Rule
  c = s.rules

  abbrev again : Bool
  again = s.args_override_self

  used_keeps : (id : Text) (values : List Text) (rows : List Row) (found : Option Rule) → arg_by_id c id ≡ found → P rows
      → option_map_or (λ a. use_fault again a values rows) found [] ≡ [] → P (used_by_id found values rows)
  used_keeps id values rows None is ok clear = ok
  used_keeps id values rows (Some a) is ok clear = keeps (λ a. bytes_eq a.id id) a is values rows clear ok

  pending_keeps : (p : Option (Text × List Text)) (rows : List Row) → P rows
      → option_map_or (λ q. option_map_or (λ a. use_fault again a q.1 rows) (arg_by_id c q.0) []) p [] ≡ [] → P (settled_rows c p rows)
  pending_keeps None rows ok clear = ok
  pending_keeps (Some p) rows ok clear = used_keeps p.0 p.1 rows (arg_by_id c p.0) refl ok clear

  pub settled_keeps : (h : Held) → P h.rows → settle_fault c again h ≡ [] → P (settled c h).rows
  settled_keeps h ok clear = pending_keeps h.pending h.rows ok clear

  reacted_keeps : (p : Rule → Bool) (a : Rule) → find p c ≡ Some a → (values : List Text) (h : Held) → P h.rows
      → react_fault c again a values h ≡ [] → P (reacted c a values h).rows
  reacted_keeps p a is values h ok clear =
      let parts = none_else _ _ clear in
      keeps p a is values (settled c h).rows parts.1 (settled_keeps h ok parts.0)

  option_keeps : (p : Rule → Bool) (a : Rule) → find p c ≡ Some a → (v : Option Text) (h : Held) → P h.rows
      → option_fault c again a v h ≡ [] → P (option_met c a v h).0.rows
  option_keeps p a is (Some v) h ok clear = reacted_keeps p a is (v ∷ []) h ok clear
  option_keeps p a is None h ok clear = settled_keeps h ok clear

  flag_keeps : (p : Rule → Bool) (a : Rule) → find p c ≡ Some a → (v : Option Text) (h : Held) → P h.rows
      → cond (is_some v) (kind.TooManyValues ∷ []) (react_fault c again a [] h) ≡ [] → P (flag_met c a v h).0.rows
  flag_keeps p a is (Some v) h ok clear = ok
  flag_keeps p a is None h ok clear = reacted_keeps p a is [] h ok clear

  long_keeps : (name : Text) (found : Option Rule) → arg_by_long c name ≡ found → (v : Option Text) (h : Held) → P h.rows
      → long_fault c again found v h ≡ [] → P (long_met c found v h).0.rows
  long_keeps name None is v h ok clear = ok
  long_keeps name (Some a) is v h ok clear = go (takes_values a) clear
    where
      go : (b : Bool) → cond b (option_fault c again a v h) (cond (is_some v) (kind.TooManyValues ∷ []) (react_fault c again a [] h)) ≡ []
          → P (cond b (option_met c a v h) (flag_met c a v h)).0.rows
      go true clear = option_keeps _ a is v h ok clear
      go false clear = flag_keeps _ a is v h ok clear

  short_keeps : (x : ℕ) (found : Option Rule) → arg_by_short c x ≡ found → (rest : Text) (h : Held) (more : Held → Held × Outcome) (fault : Held → Kinds)
      → ((k : Held) → P k.rows → fault k ≡ [] → P (more k).0.rows) → P h.rows
      → short_fault c again found rest h fault ≡ [] → P (short_met c found rest h more).0.rows
  short_keeps x None is rest h more fault then ok clear = ok
  short_keeps x (Some a) is rest h more fault then ok clear = go (takes_values a) clear
    where
      go : (b : Bool) → cond b (option_fault c again a (attached_value rest) h) (or_else (react_fault c again a [] h) (fault (reacted c a [] h))) ≡ []
          → P (cond b (option_met c a (attached_value rest) h) (more (reacted c a [] h))).0.rows
      go true clear = option_keeps _ a is (attached_value rest) h ok clear
      go false clear =
          let parts = none_else _ _ clear in
          then (reacted c a [] h) (reacted_keeps _ a is [] h ok parts.0) parts.1

  bundle_step_keeps : (k : ℕ) → ((flags : Text) (skip : ℕ) (so_far : Outcome) (h : Held) → P h.rows
      → flags_fault c again k flags skip h ≡ [] → P (bundle_met c k flags skip so_far h).0.rows)
      → (o : Option ℕ) (flags : Text) (skip : ℕ) (so_far : Outcome) (h : Held) → P h.rows
      → bundle_step_fault c again o flags skip h (flags_fault c again k) ≡ [] → P (bundle_step c o flags skip so_far h (bundle_met c k)).0.rows
  bundle_step_keeps k then None flags skip so_far h ok clear = ok
  bundle_step_keeps k then (Some x) flags zero so_far h ok clear =
      let rest = drop (length (encode_utf8 x)) flags in
      short_keeps x (arg_by_short c x) refl rest h (bundle_met c k rest 0 done) (flags_fault c again k rest 0) (then rest 0 done) ok clear
  bundle_step_keeps k then (Some x) flags (suc skip) so_far h ok clear = then _ skip so_far h ok clear

  bundle_keeps : (k : ℕ) (flags : Text) (skip : ℕ) (so_far : Outcome) (h : Held) → P h.rows
      → flags_fault c again k flags skip h ≡ [] → P (bundle_met c k flags skip so_far h).0.rows
  unfolding bundle_met flags_fault
  bundle_keeps zero flags skip so_far h ok clear = ok
  bundle_keeps (suc k) flags skip so_far h ok clear = bundle_step_keeps k (bundle_keeps k) (slice_get (chars flags) 0) flags skip so_far h ok clear

  value_keeps : (found : Option Rule) (id word : Text) (h : Held) → P h.rows → P (Rattle.clap.specs.Walk.option_word found id word h).0.rows
  value_keeps None id word h ok = ok
  value_keeps (Some a) id word h ok = ok

  plain_keeps : (waiting : Waiting) (word : Text) (h : Held) → P h.rows → P (plain_word c waiting word h).0.rows
  plain_keeps idle word h ok = ok
  plain_keeps (option id) word h ok = value_keeps (arg_by_id c id) id word h ok
  plain_keeps positional word h ok = ok

  after_flag_keeps : (waiting : Waiting) (word : Text) (h : Held) (o : Outcome) → P h.rows → P (after_flag c waiting word h o).0.rows
  after_flag_keeps waiting word h done ok = ok
  after_flag_keeps waiting word h (waits id) ok = ok
  after_flag_keeps waiting word h plain ok = plain_keeps waiting word h ok
  after_flag_keeps waiting word h refused ok = plain_keeps waiting word h ok

  flag_word_keeps : (waiting : Waiting) (word : Text) (p : Option (Text × Option Text)) (h : Held) → P h.rows
      → flag_word_fault c again p word h ≡ [] → P (long_or_other c waiting word p h).0.rows
  flag_word_keeps waiting word (Some p) h ok clear = after_flag_keeps waiting word _ _ (long_keeps p.0 (arg_by_long c p.0) refl p.1 h ok clear)
  flag_word_keeps waiting word None h ok clear = go (short_of word) clear
    where
      go : (o : Option Text) → option_map_or (λ flags. Rattle.clap.specs.Faults.bundle_fault c again flags h) o [] ≡ []
          → P (Rattle.clap.specs.Walk.short_or_plain c waiting word o h).0.rows
      go None clear = plain_keeps waiting word h ok
      go (Some flags) clear = after_flag_keeps waiting word _ _ (bundle_keeps (length flags) flags h.skip plain (record h { skip = 0 }) ok clear)

  other_keeps : (met : Option Text) (waiting : Waiting) (position : ℕ) (word : Text) (h : Held) → P h.rows
      → other_fault s met word h ≡ [] → P (subcommand_or_other c met waiting position word h).0.rows
  other_keeps (Some name) waiting position word h ok clear = ok
  other_keeps None waiting position word h ok clear = go (bytes_eq word (45 ∷ 45 ∷ [])) clear
    where
      go : (b : Bool) → cond b [] (flag_word_fault c again (long_of word) word h) ≡ []
          → P (cond b (h, trailing position) (long_or_other c waiting word (long_of word) h)).0.rows
      go true clear = ok
      go false clear = flag_word_keeps waiting word (long_of word) h ok clear

  word_keeps : (names : Names) (is_trailing : Bool) (waiting : Waiting) (position : ℕ) (word : Text) (h : Held) → P h.rows
      → word_fault s names is_trailing waiting word h ≡ [] → P (word_met c names is_trailing waiting position word h).0.rows
  word_keeps names true waiting position word h ok clear = ok
  word_keeps names false waiting position word h ok clear = other_keeps (subcommand_met names waiting word) waiting position word h ok clear

  positional_keeps : (a : Rule) (word : Text) (h : Held) → P h.rows → positional_fault c again a h ≡ [] → P (positional_held c a word h).rows
  positional_keeps a word h ok clear = go (is_pending a h.pending && takes_several a) clear
    where
      go : (b : Bool) → cond b [] (settle_fault c again h) ≡ [] → P (cond b h (settled c h)).rows
      go true clear = ok
      go false clear = settled_keeps h ok clear

  step_keeps : (w : Walk) (word : Text) (h : Held) (step : Step) → P h.rows → step_fault s w.position h step ≡ [] → P (after_step c word w h step).held.rows
  step_keeps w word h (next waiting) ok clear = ok
  step_keeps w word h (trailing position) ok clear = ok
  step_keeps w word h (subcommand name) ok clear = ok
  step_keeps w word h value ok clear = go (arg_by_index c w.position) clear
    where
      go : (o : Option Rule) → option_map_or (λ a. positional_fault c again a h) o (Rattle.clap.specs.Faults.stray_fault s) ≡ []
          → P (Rattle.clap.specs.Walk.to_positional c o word w h).held.rows
      go None clear = ok
      go (Some a) clear = positional_keeps a word h ok clear

  turn_keeps : (names : Names) (w : Walk) (word : Text) → P w.held.rows → turn_fault s names w word ≡ [] → P (walked c names w word).held.rows
  unfolding walked
  turn_keeps names w word ok clear = go w.stopped clear
    where
      go : (o : Option (Text × List Text))
          → cond (is_some o) [] (or_else (word_fault s names w.is_trailing w.waiting word w.held)
          (step_fault s w.position (word_met c names w.is_trailing w.waiting w.position word w.held).0 (word_met c names w.is_trailing w.waiting w.position word w.held).1)) ≡ []
          → P (walked_from c names o w word).held.rows
      go (Some p) clear = ok
      go None clear =
          let parts = none_else _ _ clear in
          step_keeps w word _ _ (word_keeps names w.is_trailing w.waiting w.position word w.held ok parts.0) parts.1

  words_keep : (names : Names) (words : List Text) (w : Walk) → P w.held.rows → walk_fault s names w words ≡ [] → P (fold (walked c names) w words).held.rows
  unfolding walk_fault
  words_keep names [] w ok clear = ok
  words_keep names (word ∷ rest) w ok clear =
      let parts = none_else _ _ clear in
      words_keep names rest (walked c names w word) (turn_keeps names w word ok parts.0) parts.1

  -- the rows of one level, before defaults are added
  pub level_keeps : (names : Names) (h : Held) (words : List Text) (has_subcommand : Bool) (below : Kinds) → P h.rows
      → level_fault s names h words has_subcommand below ≡ [] → P (settled c (walk c names h words).held).rows
  level_keeps names h words has_subcommand below ok clear =
      let parts = none_else _ _ clear in
      let later = none_else _ _ (none_else below _ parts.1).1 in
      settled_keeps (walk c names h words).held (words_keep names words (walk_from h) ok parts.0) later.0
