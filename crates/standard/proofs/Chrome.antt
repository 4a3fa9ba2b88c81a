-- Whoever meets the contract of Chrome's judge and accepts a chain, accepts one that obeys Chrome's fixed list. Assumes nothing.
use Prim.Native.Nat.{ℕ}
use mathlib.Core.Path.{◌≡◌, sym, ◌∙◌}
use mathlib.Core.List.{List, ◌∷◌}
use Rattle.model.specs.Model.{Chain, Lists}
use Rattle.model.specs.Decode.{chain_of, lists_of}
use Rattle.sound.specs.declared.Place.TheVariants.{Nothing}
use Rattle.judge.specs.Judged.{ChromeJudged}
use Rattle.judge.specs.Obeys.{ObeysChrome}
use Rattle.judge.specs.declared.Answer.{Answer}
use Rattle.judge.specs.declared.Answer.TheVariants.{Accepted}
use Rattle.judge.proofs.Demands.{accepts_chrome}
use Rattle.udrasmil.specs.Boundary.{ChromeAnswered}
use Rattle.standard.specs.FixedLists.{ChromeList}
use Rattle.standard.proofs.Accepted.{chrome_accepted_sound, chrome_zero_accepted}
use Rattle.standard.proofs.Follows as Follows

-- the rule that each name follows from
listed : (c : Chain) (l : Lists) → ObeysChrome c l → ChromeList c
listed c l o = record {
  no_expiration = Follows.no_expiration c o.rule_2;
  outer_inner_sig_match = Follows.outer_inner_sig_match_law c o.rule_3;
  key_usage_non_empty = Follows.key_usage_non_empty_law c o.rule_5;
  issuer_subject_uid_version = Follows.issuer_subject_uid_version_law c o.rule_4;
  path_len_non_negative = Follows.path_len_non_negative c o.rule_10;
  path_len_constraint = Follows.path_len_constraint c o.rule_10;
  non_leaf_must_be_ca = Follows.non_leaf_must_be_ca c o.rule_9;
  non_leaf_has_key_cert_sign = Follows.non_leaf_has_key_cert_sign c o.rule_9;
  non_empty_san = Follows.non_empty_san c o.rule_11;
  empty_subject_implies_critical_san = Follows.empty_subject_implies_critical_san_law c o.rule_12;
  no_dsa = Follows.no_dsa c _ o.rule_6;
}

-- A chain that is accepted obeys all eleven.
pub chrome_list : (w b pw pb : List ℕ) {old new : List ℕ} {a : Answer} → ChromeJudged w b pw pb old new a → a ≡ Accepted Nothing → ChromeList (chain_of w b)
chrome_list w b pw pb j e =
    let (chain, lists) = chrome_accepted_sound w b pw pb j e in
    listed (chain_of w b) (lists_of pw pb) ((accepts_chrome w b pw pb j chain lists).0 e)

-- So does a chain for which a caller outside finds 0 in the answer's first word.
pub chrome_list_outside : (w b pw pb : List ℕ) {old new answer rest : List ℕ} → ChromeAnswered w b pw pb old new answer → answer ≡ 0 ∷ rest → ChromeList (chain_of w b)
chrome_list_outside w b pw pb x e = chrome_list w b pw pb x.judged (chrome_zero_accepted w b pw pb x.judged (sym x.words_are ∙ e))
