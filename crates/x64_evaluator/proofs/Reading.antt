-- State files line by line.
use Rattle.std.proofs.Common.{◌≡◌, ℕ, ◌+◌, true, false, List, [], ◌∷◌, ◌++◌, map, sym, ap, ◌∙◌, arith, append_assoc, length-append}
use Rattle.std.proofs.lemmas.List.{map-append}
use Rattle.x64_evaluator.specs.declared.state.StateReader.{StateReader}
use Rattle.x64_evaluator.specs.StateFile.{lines_of, setting_text, StopsAt}
use Rattle.x64_evaluator.specs.inner.Setting.{Takes, ReadSoFar}
use Rattle.x64_evaluator.proofs.Following.{allowed_more}

module _ (bytes rest line behind : List ℕ) (number : ℕ) (old new : StateReader) (so : ReadSoFar bytes rest number old) (lines : lines_of rest ≡ line ∷ lines_of behind) where
  pub one_more : Takes so.settings (λ s. setting_text s ≡ line) true new → ReadSoFar bytes behind (number + 1) new
  one_more takes = record {
    settings = so.settings ++ takes.0 ∷ [];
    allowed = allowed_more [] so.settings takes.0 so.allowed takes.2;
    are =
        so.are ∙ ap (λ l. map setting_text so.settings ++ l) (lines ∙ ap (λ l. l ∷ lines_of behind) (sym takes.1))
        ∙ sym (append_assoc (map setting_text so.settings) (setting_text takes.0 ∷ []) (lines_of behind))
        ∙ ap (λ l. l ++ lines_of behind) (sym (map-append setting_text so.settings (takes.0 ∷ [])));
    holds = takes.3;
    count = let n = so.count in let l = length-append so.settings (takes.0 ∷ []) in omega (arith, n, l);
  }

  pub stops : Takes so.settings (λ s. setting_text s ≡ line) false new → StopsAt (lines_of bytes) number
  stops takes = record {
    settings = so.settings;
    line = line;
    behind = lines_of behind;
    allowed = so.allowed;
    are = so.are ∙ ap (λ l. map setting_text so.settings ++ l) lines;
    none = takes;
    is = so.count;
  }
