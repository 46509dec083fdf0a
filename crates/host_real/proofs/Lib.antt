mod ChildLemmas
