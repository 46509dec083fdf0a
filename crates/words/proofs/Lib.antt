mod PrefixLemmas
