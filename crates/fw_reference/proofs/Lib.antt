mod GoingOn
