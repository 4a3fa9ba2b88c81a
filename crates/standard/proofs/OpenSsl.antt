-- Whoever meets the contract of OpenSSL's judge and accepts a chain, accepts one that obeys OpenSSL's fixed list. Assumes nothing.
use Prim.Native.Nat.{ℕ}
use mathlib.Core.Path.{◌≡◌, sym, ◌∙◌}
use mathlib.Core.List.{List, ◌∷◌}
use Rattle.model.specs.Model.{Chain}
use Rattle.model.specs.Decode.{chain_of}
use Rattle.sound.specs.declared.Place.TheVariants.{Nothing}
use Rattle.judge.specs.Judged.{OpenSslJudged}
use Rattle.judge.specs.Obeys.{ObeysOpenSsl}
use Rattle.judge.specs.declared.Answer.{Answer}
use Rattle.judge.specs.declared.Answer.TheVariants.{Accepted}
use Rattle.judge.proofs.Demands.{accepts_openssl}
use Rattle.udrasmil.specs.Boundary.{OpenSslAnswered}
use Rattle.standard.specs.FixedLists.{OpenSslList}
use Rattle.standard.proofs.Accepted.{openssl_accepted_sound, openssl_zero_accepted}
use Rattle.standard.proofs.Follows as Follows

-- the rule that each name follows from
listed : (c : Chain) → ObeysOpenSsl c → OpenSslList c
listed c o = record {
  no_expiration = Follows.no_expiration c o.rule_2;
  outer_inner_sig_match = Follows.outer_inner_sig_match_law c o.rule_3;
  key_usage_non_empty = Follows.key_usage_non_empty_law c o.rule_5;
  issuer_subject_uid_version = Follows.issuer_subject_uid_version_law c o.rule_4;
  path_len_non_negative = Follows.path_len_non_negative c o.rule_10;
  path_len_constraint = Follows.path_len_constraint c o.rule_10;
  non_leaf_must_be_ca = Follows.non_leaf_must_be_ca c o.rule_9;
  non_leaf_has_key_cert_sign = Follows.non_leaf_has_key_cert_sign c o.rule_9;
  non_empty_san = Follows.non_empty_san c o.rule_11;
  empty_subject_implies_critical_san = Follows.empty_subject_implies_critical_san_law c o.rule_12;
  aki_non_critical = Follows.aki_non_critical c o.rule_7 o.rule_1;
  non_critical_root_ski = Follows.non_critical_root_ski c o.rule_7 o.rule_1;
  non_leaf_has_ski = Follows.non_leaf_has_ski c o.rule_7 (Follows.non_leaf_must_be_ca c o.rule_9);
}

-- A chain that is accepted obeys all thirteen.
pub openssl_list : (w b : List ℕ) {old new : List ℕ} {a : Answer} → OpenSslJudged w b old new a → a ≡ Accepted Nothing → OpenSslList (chain_of w b)
openssl_list w b j e = listed (chain_of w b) ((accepts_openssl w b j (openssl_accepted_sound w b j e)).0 e)

-- So does a chain for which a caller outside finds 0 in the answer's first word.
pub openssl_list_outside : (w b : List ℕ) {old new answer rest : List ℕ} → OpenSslAnswered w b old new answer → answer ≡ 0 ∷ rest → OpenSslList (chain_of w b)
openssl_list_outside w b x e = openssl_list w b x.judged (openssl_zero_accepted w b x.judged (sym x.words_are ∙ e))
